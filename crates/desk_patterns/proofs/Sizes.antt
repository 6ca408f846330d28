-- How many bytes a source takes.
use Rattle.std.proofs.Common.{◌≡◌, ◌≤◌, ◌<◌, suc, Bool, true, false, cond, nat_lt, List, [], ◌∷◌, length, Option, Some, None, refl, sym, subst, arith}
use Rattle.std.proofs.lemmas.Bool.{and_parts}
use Rattle.desk_base.specs.Names.{Text, is_empty}
use Rattle.desk_patterns.specs.TextRules.{TextRule, Hit, hit_of, longer, longest, HaveSources}
use Rattle.desk_patterns.specs.Tables.{starts}

-- one or more bytes of the text
pub record IsSized (text : Text) (hit : Hit) : Type 0 where
  pub some : 0 < hit.taken
  pub inside : hit.taken ≤ length text

abbrev pub Sized : Text → Option Hit → Type 0
Sized text None = Unit {0}
Sized text (Some hit) = IsSized text hit

pub start_within : (s text : Text) → starts text s ≡ true → length s ≤ length text
start_within [] text h = omega arith
start_within (b ∷ s) [] h = absurd cc
start_within (b ∷ s) (c ∷ text) h = omega (arith, start_within s text (and_parts _ _ h).1)

some_bytes : (s : Text) → is_empty s ≡ false → 0 < length s
some_bytes [] h = absurd cc
some_bytes (b ∷ s) h = omega arith

hit_sized : (rule : TextRule) (text : Text) → is_empty rule.0 ≡ false → Sized text (hit_of rule text)
hit_sized rule text some = elim (starts text rule.0) as (λ (x : Bool). starts text rule.0 ≡ x → Sized text (cond x (Some (record { taken = length rule.0; target = rule.1 })) None)) [
  | true ↦ λ e. record { some = some_bytes rule.0 some; inside = start_within rule.0 text e }
  | false ↦ λ e. tt
] refl

longer_sized : (text : Text) (a b : Option Hit) → Sized text a → Sized text b → Sized text (longer a b)
longer_sized text None b h k = k
longer_sized text (Some a) None h k = h
longer_sized text (Some a) (Some b) h k = elim (nat_lt a.taken b.taken) as (λ (x : Bool). Sized text (cond x (Some b) (Some a))) [ true ↦ k | false ↦ h ]

pub longest_sized : (rules : List TextRule) (text : Text) → HaveSources rules → Sized text (longest rules text)
longest_sized [] text some = tt
longest_sized (rule ∷ rules) text some = longer_sized text (hit_of rule text) (longest rules text) (hit_sized rule text (some 0 (omega arith))) (longest_sized rules text (λ k l. some (suc k) (omega arith)))

pub hit_is_sized : (rules : List TextRule) (text : Text) (hit : Hit) → HaveSources rules → Some hit ≡ longest rules text → IsSized text hit
hit_is_sized rules text hit some e = subst (Sized text) (sym e) (longest_sized rules text some)
