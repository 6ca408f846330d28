-- Small texts and their images.
use Rattle.std.proofs.Common.{◌≡◌, ℕ, List, [], ◌∷◌, Result, Ok, Err, refl}
use Rattle.std.specs.Prelude.{codes}
use Rattle.desk_base.specs.Names.{Text}
use Rattle.desk_base.specs.declared.Changed.{Changed}
use Rattle.desk_patterns.specs.TextRules.{TextRule}
use Rattle.desk_textrules.specs.TextImages.{text_image}

abbrev gives : Text → ℕ → Result Changed ℕ
gives bytes changed = Ok (record { bytes = bytes; changed = changed })

-- `ab=x` and `abc=y`
abbrev letters : List TextRule
letters = (codes "ab", codes "x") ∷ (codes "abc", codes "y") ∷ []

pub no_rules : text_image [] [] (codes "abcab") ≡ gives (codes "abcab") 0
no_rules = refl

pub no_bytes : text_image letters letters [] ≡ gives [] 0
no_bytes = refl

pub longest_first : text_image letters letters (codes "abcab") ≡ gives (codes "yx") 2
longest_first = refl

pub behind_the_source : text_image ((codes "ab", codes "b") ∷ []) [] (codes "aab") ≡ gives (codes "ab") 1
behind_the_source = refl

pub left_to_right : text_image ((codes "aa", codes "x") ∷ []) [] (codes "aaa") ≡ gives (codes "xa") 1
left_to_right = refl

pub same_target : text_image ((codes "ab", codes "ab") ∷ (codes "b", codes "c") ∷ []) ((codes "ab", codes "ab") ∷ []) (codes "abb") ≡ gives (codes "abc") 1
same_target = refl

pub target_missing : text_image ((codes "ab", []) ∷ []) ((codes "ab", []) ∷ []) (codes "cabc") ≡ gives (codes "cc") 1
target_missing = refl

pub again : text_image ((codes "a", codes "aa") ∷ []) ((codes "a", codes "aa") ∷ []) (codes "a") ≡ Err 0
again = refl

pub in_the_image : text_image ((codes "x", codes "yyy") ∷ []) ((codes "b", codes "c") ∷ []) (codes "axb") ≡ Err 4
in_the_image = refl

pub not_by_the_path : text_image ((codes "a", codes "ba") ∷ []) [] (codes "a") ≡ gives (codes "ba") 1
not_by_the_path = refl

pub by_the_target_alone : text_image [] ((codes "a", codes "b") ∷ []) (codes "ca") ≡ Err 1
by_the_target_alone = refl

pub first_place : text_image [] ((codes "a", codes "a") ∷ (codes "b", codes "c") ∷ []) (codes "abb") ≡ Err 1
first_place = refl
