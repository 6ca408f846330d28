-- The laws of a new constant pool.
use Rattle.std.specs.Prelude.{◌≡◌, ℕ, suc, ◌+◌, ◌≤◌, true, List, ◌++◌, length, drop, map, Some, None}
use Rattle.std.specs.List.{AllByRecursion}
use Rattle.desk_base.specs.Names.{Text}
use Rattle.desk_base.specs.Utf8.{bad_form}
use Rattle.desk_base.specs.declared.kinds.Role.{Role}
use Rattle.desk_base.specs.declared.kinds.Tag.TheVariants as tags
use Rattle.desk_base.specs.declared.kinds.Used.{Used}
use Rattle.desk_base.specs.declared.referents.Form.{Form}
use Rattle.desk_base.specs.Referents.{has_form, goes_with}
use Rattle.desk_base.specs.Entries.{Pool, tag_at}
use Rattle.desk_format.specs.Trees.{Tree, Use, Each, uses}
use Rattle.desk_format.specs.Values.{value_of}
use Rattle.desk_format.specs.Resolved.{Images, image, renamed_value}
use Rattle.desk_format.specs.Exchange.{Fits}
use Rattle.desk_format.specs.Laws.{Renames}
use Rattle.desk_format.specs.PoolBytes.{pool_uses}
use Rattle.desk_format.specs.Split.{Want, entry_of}
use Rattle.desk_format.specs.NewPool.{wants, new_pool, added, choice, change_by}
use Rattle.desk_laws.specs.Sound.{IsTwoBytes, IsWellFormed}

-- The image of a text has the form that the text has, where the form goes with its role, and stays modified UTF-8.
pub record KeepsForms (im : Images) : Type 0 where
  pub keeps : (role : Role) (form : Form) (t : Text) → goes_with role form ≡ true → has_form form t ≡ true → has_form form (image im role t) ≡ true
  pub utf8 : (role : Role) (t : Text) → bad_form t ≡ None → bad_form (image im role t) ≡ None

-- No wanted text is above 65,535 bytes, and neither is the new count.
pub record IsAccepted (im : Images) (old : Pool) (us : List Used) : Type 0 where
  pub short : AllByRecursion (λ (w : Want). IsTwoBytes (length w.text)) (wants im old us)
  pub room : IsTwoBytes (suc (length old) + length (added im old us))

-- The new pool is well-formed; its count is the old one and that of the missing texts, which stand behind it in byte order;
-- each old index keeps its tag; and each that is no Utf8 leads to the renamed value.
pub record IsNewPool (im : Images) (old : Pool) (us : List Used) (new : Pool) : Type 0 where
  pub well_formed : IsWellFormed new
  pub count : length new ≡ length old + length (added im old us)
  pub appended : drop (length old) new ≡ map entry_of (added im old us)
  pub same_tags : (i : ℕ) → i ≤ length old → tag_at new i ≡ tag_at old i
  pub same_values : (i : ℕ) → i ≤ length old → (tag_at old i ≡ Some tags.Utf8 → ⊥) → value_of new i ≡ renamed_value im (value_of old i)

-- Each index of a body, with its new number, fits the new pool and leads to the renamed value.
abbrev pub RenamesEach : Images → Pool → List Used → Pool → Tree Use → Type 0
RenamesEach im old us new tree = (from to : ℕ) → Each (Renames im old new (change_by (choice im old us) from to)) tree

pub record IsRenamedPool (im : Images) (old : Pool) (us : List Used) (tree : Tree Use) (new : Pool) : Type 0 where
  pub pool : IsNewPool im old us new
  pub body : RenamesEach im old us new tree

abbrev pub all_uses : ℕ → Pool → Tree Use → List Used
all_uses at pool body = pool_uses at pool ++ uses body

-- For each well-formed pool, whose first entry stands at an offset, and each body whose indices fit it.
abbrev pub NewPools : Type 0
NewPools = (im : Images) (at : ℕ) (old : Pool) (body : Tree Use) → KeepsForms im → IsWellFormed old → Each (Fits old) body → IsAccepted im old (all_uses at old body)
    → IsRenamedPool im old (all_uses at old body) body (new_pool im old (all_uses at old body))
