-- What the uses of a class want, and the texts of its new pool.
use Rattle.std.specs.Prelude.{◌≡◌, Bool, List, map, All, is_some, option_copied}
use Rattle.desk_base.specs.declared.kinds.Used.{Used}
use Rattle.desk_base.specs.Entries.{Pool, text_at}
use Rattle.desk_format.specs.Classes.{Class, class_uses}
use Rattle.desk_format.specs.Resolved.{Images, image}
use Rattle.desk_format.specs.NewPool.{new_texts, choice}
use Rattle.desk_rules.specs.Images.{IsImage}
use Rattle.desk_new_pool.specs.Keeps.{TextsAre}
use Rattle.desk_new_pool.specs.declared.wants.WantedText.{WantedText}
use Rattle.desk_new_pool.specs.declared.new_texts.NewTexts.{NewTexts}

abbrev pub used_in : WantedText → Used
used_in w = w.used

-- whether a wanted text is an image that is another text
abbrev pub has_other : WantedText → Bool
has_other w = is_some w.image

-- A wanted text is the image of the text of its use, where that is another text.
abbrev pub IsWantedUnder : Images → Pool → WantedText → Type 0
IsWantedUnder im pool w = IsImage (text_at pool w.used.index) (image im w.used.role (text_at pool w.used.index)) (option_copied w.image)

-- the wants of the uses of a class
pub record AreWanted (im : Images) (c : Class) (ws : List WantedText) : Type 0 where
  pub used : map used_in ws ≡ class_uses c
  pub each : All (IsWantedUnder im c.pool) ws

-- the texts of the new pool of a class, and the new index of each of its uses
pub record IsNewTexts (im : Images) (c : Class) (new : NewTexts) : Type 0 where
  pub texts : TextsAre (new_texts im c.pool (class_uses c)) new.texts.items
  pub indices : new.indices.items ≡ map (λ (u : Used). choice im c.pool (class_uses c) u.role u.index) (class_uses c)
