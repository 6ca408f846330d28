-- When a manifest has no image.
use Rattle.std.specs.Prelude.{◌≡◌, ⊤, Err}
use Rattle.desk_base.specs.Names.{Text}
use Rattle.desk_rules.specs.Rules.{Rules}
use Rattle.desk_manifest.specs.declared.ManifestFault.{ManifestFault}
use Rattle.desk_manifest.specs.declared.ManifestFault.TheVariants.{BadLine, Memory}
use Rattle.desk_manifest.specs.Manifests.{manifest}

-- a line that hasn't the form, at the first byte of the first such line; want of memory comes freely
abbrev pub IsManifestFault : Rules → Text → ManifestFault → Type 0
IsManifestFault rules text (BadLine at) = manifest rules text ≡ Err at
IsManifestFault rules text Memory = ⊤
