use Rattle.std.proofs.Common.{◌≡◌, ◌∷◌, [], refl, arith}
use Rattle.desk_format.specs.declared.attributes.Attribute.TheVariants as attributes
use Rattle.desk_attrs.proofs.NamedLists.{named_at, named_nowhere}
use Rattle.desk_attrs.proofs.names.named_by_length.Goals as goal

pub returns-in-4 : goal.returns-in-4
returns-in-4 c = let e : c.args.size ≡ 4 = omega arith in named_at c.args.size 4 (attributes.Code ∷ []) e refl

pub returns-in-6 : goal.returns-in-6
returns-in-6 c = let e : c.args.size ≡ 6 = omega arith in named_at c.args.size 6 (attributes.Module ∷ attributes.Record ∷ []) e refl

pub returns-in-8 : goal.returns-in-8
returns-in-8 c = let e : c.args.size ≡ 8 = omega arith in named_at c.args.size 8 (attributes.NestHost ∷ []) e refl

pub returns-in-9 : goal.returns-in-9
returns-in-9 c = let e : c.args.size ≡ 9 = omega arith in named_at c.args.size 9 (attributes.Synthetic ∷ attributes.Signature ∷ []) e refl

pub returns-in-10 : goal.returns-in-10
returns-in-10 c = let e : c.args.size ≡ 10 = omega arith in named_at c.args.size 10 (attributes.Exceptions ∷ attributes.SourceFile ∷ attributes.Deprecated ∷ []) e refl

pub returns-in-11 : goal.returns-in-11
returns-in-11 c = let e : c.args.size ≡ 11 = omega arith in named_at c.args.size 11 (attributes.NestMembers ∷ []) e refl

pub returns-in-12 : goal.returns-in-12
returns-in-12 c = let e : c.args.size ≡ 12 = omega arith in named_at c.args.size 12 (attributes.InnerClasses ∷ []) e refl

pub returns-in-13 : goal.returns-in-13
returns-in-13 c = let e : c.args.size ≡ 13 = omega arith in named_at c.args.size 13 (attributes.ConstantValue ∷ attributes.StackMapTable ∷ []) e refl

pub returns-in-14 : goal.returns-in-14
returns-in-14 c = let e : c.args.size ≡ 14 = omega arith in named_at c.args.size 14 (attributes.ModulePackages ∷ []) e refl

pub returns-in-15 : goal.returns-in-15
returns-in-15 c = let e : c.args.size ≡ 15 = omega arith in named_at c.args.size 15 (attributes.EnclosingMethod ∷ attributes.LineNumberTable ∷ attributes.ModuleMainClass ∷ []) e refl

pub returns-in-16 : goal.returns-in-16
returns-in-16 c = let e : c.args.size ≡ 16 = omega arith in named_at c.args.size 16 (attributes.BootstrapMethods ∷ attributes.MethodParameters ∷ []) e refl

pub returns-in-17 : goal.returns-in-17
returns-in-17 c = let e : c.args.size ≡ 17 = omega arith in named_at c.args.size 17 (attributes.AnnotationDefault ∷ []) e refl

pub returns-in-18 : goal.returns-in-18
returns-in-18 c = let e : c.args.size ≡ 18 = omega arith in named_at c.args.size 18 (attributes.LocalVariableTable ∷ []) e refl

pub returns-in-19 : goal.returns-in-19
returns-in-19 c = let e : c.args.size ≡ 19 = omega arith in named_at c.args.size 19 (attributes.PermittedSubclasses ∷ []) e refl

pub returns-in-20 : goal.returns-in-20
returns-in-20 c = let e : c.args.size ≡ 20 = omega arith in named_at c.args.size 20 (attributes.SourceDebugExtension ∷ []) e refl

pub returns-in-22 : goal.returns-in-22
returns-in-22 c = let e : c.args.size ≡ 22 = omega arith in named_at c.args.size 22 (attributes.LocalVariableTypeTable ∷ []) e refl

pub returns-in-25 : goal.returns-in-25
returns-in-25 c = let e : c.args.size ≡ 25 = omega arith in named_at c.args.size 25 (attributes.RuntimeVisibleAnnotations ∷ []) e refl

pub returns-in-27 : goal.returns-in-27
returns-in-27 c = let e : c.args.size ≡ 27 = omega arith in named_at c.args.size 27 (attributes.RuntimeInvisibleAnnotations ∷ []) e refl

pub returns-in-29 : goal.returns-in-29
returns-in-29 c = let e : c.args.size ≡ 29 = omega arith in named_at c.args.size 29 (attributes.RuntimeVisibleTypeAnnotations ∷ []) e refl

pub returns-in-31 : goal.returns-in-31
returns-in-31 c = let e : c.args.size ≡ 31 = omega arith in named_at c.args.size 31 (attributes.RuntimeInvisibleTypeAnnotations ∷ []) e refl

pub returns-in-34 : goal.returns-in-34
returns-in-34 c = let e : c.args.size ≡ 34 = omega arith in named_at c.args.size 34 (attributes.RuntimeVisibleParameterAnnotations ∷ []) e refl

pub returns-in-36 : goal.returns-in-36
returns-in-36 c = let e : c.args.size ≡ 36 = omega arith in named_at c.args.size 36 (attributes.RuntimeInvisibleParameterAnnotations ∷ []) e refl

pub returns-in_default : goal.returns-in_default
returns-in_default c = named_nowhere c.args.size (λ e. omega arith) (λ e. omega arith) (λ e. omega arith) (λ e. omega arith) (λ e. omega arith) (λ e. omega arith) (λ e. omega arith) (λ e. omega arith) (λ e. omega arith) (λ e. omega arith) (λ e. omega arith) (λ e. omega arith) (λ e. omega arith) (λ e. omega arith) (λ e. omega arith) (λ e. omega arith) (λ e. omega arith) (λ e. omega arith) (λ e. omega arith) (λ e. omega arith) (λ e. omega arith) (λ e. omega arith)
