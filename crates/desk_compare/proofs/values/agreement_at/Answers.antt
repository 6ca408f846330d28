use Rattle.desk_compare.proofs.Agreements.{apart, nowhere, tagged}
use Rattle.desk_compare.proofs.values.agreement_at.Goals as goal

pub returns-then-not-same_tag : goal.returns-then-not-same_tag
returns-then-not-same_tag c =
    λ n h. apart c.args.left.now.entries c.args.right.now.entries c.args.i c.args.j c.tag-tag.result c.tag.result c.tag-tag.ensures c.tag.ensures n h c.if-not-same_tag.ensures

pub returns-in-None : goal.returns-in-None
returns-in-None c =
    λ n h. nowhere c.args.left.now.entries c.args.right.now.entries c.args.i c.args.j c.tag-tag.result c.tag.result c.tag-tag.ensures c.tag.ensures n h c.if-not-same_tag.ensures c.in-None.is

pub returns-in-Some : goal.returns-in-Some
returns-in-Some c =
    λ n h. tagged c.args.left.now.entries c.args.right.now.entries c.args.i c.args.j c.tag-tag.result c.tag.result c.tag-tag.ensures c.tag.ensures n c.in-Some.tag c.agreement_of.result h c.if-not-same_tag.ensures c.in-Some.is c.agreement_of.ensures
