-- Why an index does not fit: the entry that it names has another tag, or the text that it leads to has not its form.
use Rattle.std.specs.Prelude.{ℕ, ◌&&◌, ◌==◌, Option, Some, None, if◌then◌else◌}
use Rattle.desk_base.specs.declared.kinds.UseKind.{UseKind}
use Rattle.desk_base.specs.declared.faults.FaultKind.{FaultKind}
use Rattle.desk_base.specs.declared.faults.FaultKind.TheVariants as faults
use Rattle.desk_base.specs.declared.referents.Form.{Form}
use Rattle.desk_base.specs.declared.referents.Form.TheVariants as forms
use Rattle.desk_base.specs.declared.referents.Referent.{Referent}
use Rattle.desk_base.specs.Entries.{Pool, tag_at}
use Rattle.desk_base.specs.Referents.{has_form, fits, form_of, text_led_to, referent_of, may_be_none}

-- the first of two faults
abbrev pub or_else : {A : Type 0} → Option A → Option A → Option A
or_else None b = b
or_else (Some a) b = Some a

-- what a text without its form is
abbrev pub form_fault : Form → FaultKind
form_fault forms.ClassName = faults.ClassName
form_fault forms.ClassOrArray = faults.ClassName
form_fault _ = faults.Descriptor

-- an index that names no entry of a fitting tag
abbrev pub wrong_entry : Pool → Referent → ℕ → Option FaultKind
wrong_entry pool referent i = if fits referent (tag_at pool i) then None else Some faults.Index

-- a text that has not its form
abbrev pub wrong_text : Pool → Referent → ℕ → Option FaultKind
wrong_text pool referent i = if has_form (form_of referent) (text_led_to referent pool i) then None else Some (form_fault (form_of referent))

-- why an index does not fit a referent; none where it fits
abbrev pub misfit_of : Pool → Referent → ℕ → Option FaultKind
misfit_of pool referent i = or_else (wrong_entry pool referent i) (wrong_text pool referent i)

-- why an index does not fit a use kind; none where it fits
unfoldable pub misfit : Pool → UseKind → ℕ → Option FaultKind
misfit pool kind i = if may_be_none kind && i == 0 then None else misfit_of pool (referent_of kind) i
