-- What is exchanged of a text.
use Rattle.std.specs.Prelude.{◌≡◌, ◌≢◌, ◌≤◌, ◌++◌, ℕ, length, drop}
use Rattle.desk_base.specs.Names.{Text, Package, written}

-- the image of a text is not that text: these segments stand in place of so many of its bytes
pub record IsExchange (separator : ℕ) (text image : Text) (taken : ℕ) (target : Package) : Type 0 where
  pub within : taken ≤ length text
  pub image_is : image ≡ written separator target ++ drop taken text
  pub differs : image ≢ text
