-- Sites, one after the other.
use Rattle.std.proofs.Common.{◌≡◌, ℕ, ◌+◌, ◌<◌, ◌≤◌, Bool, true, false, cond, List, [], ◌∷◌, ◌++◌, length, take, drop, get_or, map, filter, Option, Some, None, option_map, sym, ap, ◌∙◌, append_assoc, append-nil, arith, length-drop}
use Rattle.std.proofs.lemmas.List.{drop_more, drop_all, length-take}
use Rattle.desk_base.specs.Names.{Text, Package}
use Rattle.desk_base.specs.Entries.{Pool}
use Rattle.desk_base.specs.Misfits.{or_else}
use Rattle.desk_base.specs.declared.faults.CodeFault.{CodeFault}
use Rattle.desk_code.specs.declared.places.CodeAt.{CodeAt}
use Rattle.desk_code.specs.declared.reader.Instruction.{Instruction}
use Rattle.desk_code.specs.Codes.{code_bytes}
use Rattle.desk_code.specs.Faults.{place_of}
use Rattle.desk_code.proofs.Within.{fault_inside}
use Rattle.desk_sites.specs.declared.sites.Site.{Site}
use Rattle.desk_sites.specs.Faults.{moved_fault}
use Rattle.desk_sites.specs.Sites.{is_site, site_in, sites_among, read_code, first_fault}

-- ---- the sites among instructions

pub sites_more : (pool : Pool) (scope : Package) (code : CodeAt) (i : Instruction) (is all : List Instruction) (sites new whole : List Site) → all ≡ i ∷ is → is_site pool scope i ≡ true → new ≡ sites ++ site_in code i ∷ []
    → sites ++ sites_among pool scope code all ≡ whole → new ++ sites_among pool scope code is ≡ whole
sites_more pool scope code i is all sites new whole all_is yes' new_is so_far =
    let e : sites_among pool scope code (i ∷ is) ≡ site_in code i ∷ sites_among pool scope code is
    = ap (λ (x : Bool). map (site_in code) (cond x (i ∷ filter (is_site pool scope) is) (filter (is_site pool scope) is))) yes' in
    ap (λ (xs : List Site). xs ++ sites_among pool scope code is) new_is
    ∙ append_assoc sites (site_in code i ∷ []) (sites_among pool scope code is)
    ∙ ap (λ (xs : List Site). sites ++ xs) (sym e)
    ∙ ap (λ (js : List Instruction). sites ++ sites_among pool scope code js) (sym all_is)
    ∙ so_far

pub sites_same : (pool : Pool) (scope : Package) (code : CodeAt) (i : Instruction) (is all : List Instruction) (sites whole : List Site) → all ≡ i ∷ is → is_site pool scope i ≡ false
    → sites ++ sites_among pool scope code all ≡ whole → sites ++ sites_among pool scope code is ≡ whole
sites_same pool scope code i is all sites whole all_is no' so_far =
    let e : sites_among pool scope code (i ∷ is) ≡ sites_among pool scope code is
    = ap (λ (x : Bool). map (site_in code) (cond x (i ∷ filter (is_site pool scope) is) (filter (is_site pool scope) is))) no' in
    ap (λ (xs : List Site). sites ++ xs) (sym e) ∙ ap (λ (js : List Instruction). sites ++ sites_among pool scope code js) (sym all_is) ∙ so_far

pub sites_done : (pool : Pool) (scope : Package) (code : CodeAt) (all : List Instruction) (sites whole : List Site) → all ≡ [] → sites ++ sites_among pool scope code all ≡ whole → sites ≡ whole
sites_done pool scope code all sites whole none so_far = sym (append-nil sites) ∙ ap (λ (js : List Instruction). sites ++ sites_among pool scope code js) (sym none) ∙ so_far

-- ---- the first fault

pub fault_here : (pool : Pool) (bytes : Text) (codes : List CodeAt) (i : ℕ) (d : CodeAt) (f : CodeFault) (total : Option CodeFault) → i < length codes → (read_code pool bytes (get_or codes i d)).fault ≡ Some f
    → first_fault pool bytes (drop i codes) ≡ total → total ≡ Some (moved_fault (get_or codes i d).at f)
fault_here pool bytes codes i d f total within h so_far =
    sym so_far ∙ ap (first_fault pool bytes) (drop_more codes i d within)
    ∙ ap (λ (o : Option CodeFault). or_else (option_map (moved_fault (get_or codes i d).at) o) (first_fault pool bytes (drop (i + 1) codes))) h

pub fault_later : (pool : Pool) (bytes : Text) (codes : List CodeAt) (i : ℕ) (d : CodeAt) (total : Option CodeFault) → i < length codes → (read_code pool bytes (get_or codes i d)).fault ≡ None
    → first_fault pool bytes (drop i codes) ≡ total → first_fault pool bytes (drop (i + 1) codes) ≡ total
fault_later pool bytes codes i d total within h so_far =
    sym (ap (first_fault pool bytes) (drop_more codes i d within)
    ∙ ap (λ (o : Option CodeFault). or_else (option_map (moved_fault (get_or codes i d).at) o) (first_fault pool bytes (drop (i + 1) codes))) h)
    ∙ so_far

pub fault_never : (pool : Pool) (bytes : Text) (codes : List CodeAt) (i : ℕ) (total : Option CodeFault) → length codes ≤ i → first_fault pool bytes (drop i codes) ≡ total → total ≡ None
fault_never pool bytes codes i total over so_far = sym so_far ∙ ap (first_fault pool bytes) (drop_all i codes over)

-- a fault of a code array stands in the file
pub fault_in_file : (pool : Pool) (bytes : Text) (code : CodeAt) (f : CodeFault) → (read_code pool bytes code).fault ≡ Some f → code.at + place_of f < length bytes
fault_in_file pool bytes code f h =
    let inside : place_of f < length (take code.length (drop code.at bytes)) = fault_inside pool (code_bytes bytes code) f h in
    let few : length (take code.length (drop code.at bytes)) ≤ length (drop code.at bytes) = short code.length (drop code.at bytes) in
    omega (arith, inside, few, length-drop code.at bytes)
  where
    short : (n : ℕ) (s : List ℕ) → length (take n s) ≤ length s
    short n s = omega (arith, length-take n s)
