use Rattle.std.proofs.Common.{Option, Some, None}
use Rattle.std.specs.Prelude.{MatchOption}
use Rattle.desk_packages.specs.Keys.{byte_of}
use Rattle.desk_packages.proofs.Sources.{separates}
use Rattle.desk_rename.proofs.NameImages.{unchanged_package, changed_package}
use Rattle.desk_rename.proofs.names.package_front.Goals as goal

weaker : {A : Type 0} (o : Option A) (P Q : Type 0) (R S : A → Type 0) → (P → Q) → ((x : A) → R x → S x) → MatchOption o P R → MatchOption o Q S
weaker None P Q R S f g h = f h
weaker (Some x) P Q R S f g h = g x h

pub returns-clause-front : goal.returns-clause-front
returns-clause-front c =
    weaker c.package.result _ _ _ _ (unchanged_package c.args.rules.now.renames (byte_of c.args.separator) c.args.text.now)
    (λ front. changed_package c.args.rules.now.renames c.package.ensures.settled.formed (byte_of c.args.separator) (separates c.args.separator) c.args.text.now front.taken front.segments.now)
    c.package.ensures.answer
