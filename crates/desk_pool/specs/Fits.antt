-- Entries without a fault: each index names an entry of a fitting tag, and leads to a text of its form.
use Rattle.std.specs.Prelude.{◌≡◌, ℕ, Bool, true, ◌&&◌, List, [], ◌∷◌, Some, None}
use Rattle.desk_base.specs.declared.kinds.Role.{Role}
use Rattle.desk_base.specs.declared.kinds.Used.{Used}
use Rattle.desk_base.specs.declared.referents.Referent.{Referent}
use Rattle.desk_base.specs.Entries.{Pool, tag_at}
use Rattle.desk_base.specs.Referents.{Link, links, fits, form_of, has_form, text_led_to}
use Rattle.desk_format.specs.PoolBytes.{pool_uses}
use Rattle.desk_format.specs.PoolReading.{first_fault, names_wrong, leads_wrong}

-- whether an index fits a referent
abbrev pub index_fits : Pool → Referent → ℕ → Bool
index_fits pool referent i = fits referent (tag_at pool i) && has_form (form_of referent) (text_led_to referent pool i)

-- whether each of these indices fits
abbrev pub links_fit : Pool → List Link → Bool
links_fit pool [] = true
links_fit pool (l ∷ []) = index_fits pool l.referent l.index
links_fit pool (l ∷ m ∷ ls) = index_fits pool l.referent l.index && links_fit pool (m ∷ ls)

-- whether each index of these entries fits
abbrev pub slots_fit : Pool → Pool → Bool
slots_fit pool [] = true
slots_fit pool (None ∷ slots) = slots_fit pool slots
slots_fit pool (Some e ∷ slots) = links_fit pool (links e) && slots_fit pool slots

-- a pool in which no pass finds a fault, where its first entry stands at an offset, and its uses of texts
pub record Faultless (start : ℕ) (pool : Pool) (uses : List Used) : Type 0 where
  pub named : first_fault (names_wrong pool) start pool ≡ None
  pub formed : first_fault (leads_wrong pool) start pool ≡ None
  pub used : uses ≡ pool_uses start pool

-- the use of a text that an index names, which stands at an offset
abbrev pub text_used : ℕ → ℕ → Role → Used
text_used at index role = record { at = at; index = index; role = role }
