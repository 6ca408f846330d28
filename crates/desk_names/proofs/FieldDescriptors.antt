-- A field descriptor is a return descriptor.
use Rattle.std.proofs.Common.{◌≡◌, true, refl}
use Rattle.desk_base.specs.Names.{Text}
use Rattle.desk_base.specs.Descriptors.{Descriptor, Returned, DescriptorKind, IsDescriptor, is_descriptor, kind_of, is_formed, is_returned, text_with, returned_text}
use Rattle.desk_names.proofs.Scanned.{tree_of}
use Rattle.desk_names.proofs.Takes.{taken}

as_returned : (text : Text) (d : Descriptor) → IsDescriptor DescriptorKind.field text d → (e : Descriptor) × IsDescriptor DescriptorKind.return text e
unfolding kind_of is_formed is_returned text_with returned_text
as_returned text (Descriptor.field t) r = (Descriptor.returned (Returned.value t), record { kind = refl; formed = r.formed; prints = r.prints })
as_returned text (Descriptor.method ts q) r = absurd cc
as_returned text (Descriptor.returned q) r = absurd cc

pub field_returned : (text : Text) → is_descriptor DescriptorKind.field text ≡ true → is_descriptor DescriptorKind.return text ≡ true
field_returned text h =
    let t = tree_of DescriptorKind.field text h in
    let u = as_returned text t.0 t.1 in
    taken DescriptorKind.return text u.0 u.1
