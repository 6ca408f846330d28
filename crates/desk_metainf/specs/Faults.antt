-- When a service file has no image.
use Rattle.std.specs.Prelude.{◌≡◌, ⊤, Err}
use Rattle.desk_base.specs.Names.{Text}
use Rattle.desk_rules.specs.Rules.{Rules}
use Rattle.desk_metainf.specs.Services.{service}
use Rattle.desk_metainf.specs.declared.ServiceFault.{ServiceFault}
use Rattle.desk_metainf.specs.declared.ServiceFault.TheVariants.{BadLine, Memory}

-- a bad line, at the first byte of the first such line; want of memory comes freely
abbrev pub IsServiceFault : Rules → Text → ServiceFault → Type 0
IsServiceFault rules text (BadLine at) = service rules text ≡ Err at
IsServiceFault rules text Memory = ⊤
