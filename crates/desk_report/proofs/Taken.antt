-- Bytes that a writer takes by parts.
use Rattle.std.proofs.Common.{◌≡◌, ℕ, ◌-◌, List, ◌++◌, Option, sym, ap, ◌∙◌, append_assoc, take, drop, length, length-drop, arith}
use Rattle.std.specs.Io.KnownBytes.{Appends}
use Rattle.std.proofs.KnownBytes.{Appends-trans}
use Rattle.std.proofs.lemmas.List.{take-append-drop, take_all}

-- what was written so far, and what is left
pub record IsWritten (bytes rest : List ℕ) (old new : Option (List ℕ)) : Type 0 where
  pub done : List ℕ
  pub all : bytes ≡ done ++ rest
  pub is : Appends old new done

-- the writer took so many bytes more
pub written_more : (bytes rest : List ℕ) (old mid new : Option (List ℕ)) (n : ℕ) → IsWritten bytes rest old mid → Appends mid new (take n rest) → IsWritten bytes (take (length rest - n) (drop n rest)) old new
written_more bytes rest old mid new n w more =
    let whole : take (length rest - n) (drop n rest) ≡ drop n rest = take_all (length rest - n) (drop n rest) (let h = length-drop n rest in omega arith) in
    record {
      done = w.done ++ take n rest;
      all = w.all ∙ ap (λ x. w.done ++ x) (sym (take-append-drop n rest)) ∙ sym (append_assoc w.done (take n rest) (drop n rest)) ∙ ap (λ x. (w.done ++ take n rest) ++ x) (sym whole);
      is = Appends-trans old mid new w.done (take n rest) w.is more;
    }
