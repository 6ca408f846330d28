-- Which place lies in another, what stands against a run by the places of its roots, and which nodes are on the way to a place.
use Rattle.std.specs.Prelude.{Bool, ◌&&◌, ◌||◌, ◌==◌, List, [], ◌∷◌, Option, None, Some, Result, Ok, Err, false, not, if◌then◌else◌}
use Rattle.std.specs.List.{list_any, starts_with}
use Rattle.std.specs.Str.{bytes_eq}
use Rattle.desk_base.specs.Names.{Text}
use Rattle.desk_places.specs.declared.places.Node.{Node}
use Rattle.desk_places.specs.declared.places.Place.{Place}
use Rattle.desk_places.specs.declared.places.Places.{Places}
use Rattle.desk_places.specs.declared.places.Pair.{Pair}
use Rattle.desk_places.specs.declared.places.Pair.TheVariants.{FromTo, RulesTo, LedgerFrom, LedgerTo, LedgerRules}
use Rattle.desk_places.specs.declared.places.RootName.{RootName}
use Rattle.desk_places.specs.declared.places.RootName.TheVariants as root
use Rattle.desk_places.specs.declared.places.Obstacle.{Obstacle}
use Rattle.desk_places.specs.declared.places.Obstacle.TheVariants.{Nested, Unknown}

-- the same device and inode
abbrev pub same_node : Node → Node → Bool
same_node a b = (a.device == b.device) && (a.inode == b.inode)

-- nothing follows the node: the place itself is there
abbrev pub is_there : List Text → Bool
is_there [] = Bool.true
is_there (segment ∷ more) = false

-- a place lies in one that is there whose node is above its own, and in one that begins at its own node with segments that
-- begin its own
abbrev pub lies_in : Place → Place → Bool
lies_in x y = (is_there y.rest && list_any (same_node y.nearest) x.above.items) || (same_node x.nearest y.nearest && starts_with bytes_eq x.rest y.rest)

abbrev pub overlap : Place → Place → Bool
overlap x y = lies_in x y || lies_in y x

-- the same of two places that are told; nothing is known of one that isn't
abbrev pub told_lies_in : {E : Type 0} → Result Place E → Result Place E → Bool
told_lies_in (Ok x) (Ok y) = lies_in x y
told_lies_in (Ok x) (Err e) = false
told_lies_in (Err e) y = false

abbrev pub told_overlap : {E : Type 0} → Result Place E → Result Place E → Bool
told_overlap (Ok x) (Ok y) = overlap x y
told_overlap (Ok x) (Err e) = false
told_overlap (Err e) y = false

-- the first pair of roots of which one may not lie in the other, as far as their places are told
abbrev pub first_nested : Places → Option Pair
first_nested p =
    if told_overlap p.from p.to then Some FromTo
    else if told_overlap p.rules p.to then Some RulesTo
    else if told_lies_in p.ledger p.from then Some LedgerFrom
    else if told_lies_in p.ledger p.to then Some LedgerTo
    else if told_lies_in p.ledger p.rules then Some LedgerRules
    else None

abbrev pub is_told : {E : Type 0} → Result Place E → Bool
is_told (Ok x) = Bool.true
is_told (Err e) = false

-- the first root whose place isn't told
abbrev pub first_unknown : Places → Option RootName
first_unknown p =
    if not (is_told p.rules) then Some root.Rules
    else if not (is_told p.from) then Some root.From
    else if not (is_told p.to) then Some root.To
    else if not (is_told p.ledger) then Some root.Ledger
    else None

-- a pair that is nested, or else a root whose place isn't told
abbrev pub obstacle_of : Option Pair → Option RootName → Option Obstacle
obstacle_of (Some pair) unknown = Some (Nested pair)
obstacle_of None (Some root) = Some (Unknown root)
obstacle_of None None = None

-- what stands against a run by the places of its roots
abbrev pub first_obstacle : Places → Option Obstacle
first_obstacle p = obstacle_of (first_nested p) (first_unknown p)

-- some nodes have a node among them
abbrev pub holds : List Node → Node → Bool
holds nodes node = list_any (same_node node) nodes

-- a node is on the way to a place that is told: it is its nearest, or above that
abbrev pub is_on_way : {E : Type 0} → Node → Result Place E → Bool
is_on_way node (Ok x) = same_node node x.nearest || holds x.above.items node
is_on_way node (Err e) = false
