-- When a file has no image.
use Rattle.std.specs.Prelude.{◌≡◌, ⊤, List, Result, Err}
use Rattle.desk_base.specs.Names.{Text}
use Rattle.desk_base.specs.declared.faults.ReadFault.{ReadFault}
use Rattle.desk_base.specs.declared.faults.ReadFault.TheVariants as read
use Rattle.desk_manifest.specs.declared.ManifestFault.{ManifestFault}
use Rattle.desk_manifest.specs.declared.ManifestFault.TheVariants as manifest
use Rattle.desk_metainf.specs.declared.ServiceFault.{ServiceFault}
use Rattle.desk_metainf.specs.declared.ServiceFault.TheVariants as service
use Rattle.desk_report.specs.declared.lines.Reason.{Reason}
use Rattle.desk_report.specs.declared.lines.Reason.TheVariants as reason
use Rattle.desk_rewrite.specs.declared.rewriting.RewriteFault.{RewriteFault}
use Rattle.desk_rewrite.specs.declared.rewriting.RewriteFault.TheVariants as rewrite
use Rattle.desk_rules.specs.Rules.{Rules}
use Rattle.desk_textrules.specs.declared.TextFault.{TextFault}
use Rattle.desk_textrules.specs.declared.TextFault.TheVariants as text
use Rattle.desk_file.specs.Classes.{class_image}
use Rattle.desk_file.specs.Linked.{image_in}
use Rattle.desk_file.specs.Images.{service_image, manifest_image}
use Rattle.desk_file.specs.declared.images.Image.{Image}
use Rattle.desk_file.specs.declared.images.FileFault.{FileFault}
use Rattle.desk_file.specs.declared.images.FileFault.TheVariants.{Refused, Memory}

-- there is no image for this reason; want of memory comes freely
abbrev pub IsFaultOf : Result Image Reason → FileFault → Type 0
IsFaultOf made (Refused reason) = made ≡ Err reason
IsFaultOf made Memory = ⊤

-- a service file has none for this reason
abbrev pub IsServiceFault : Rules → Text → FileFault → Type 0
IsServiceFault rules bytes fault = IsFaultOf (service_image rules bytes) fault

-- a manifest has none for this reason
abbrev pub IsManifestFault : Rules → Text → FileFault → Type 0
IsManifestFault rules bytes fault = IsFaultOf (manifest_image rules bytes) fault

-- why a service file has none
abbrev pub service_fault : ServiceFault → FileFault
service_fault (service.BadLine at) = Refused (reason.BadLine at)
service_fault service.Memory = Memory

-- why a manifest has none
abbrev pub manifest_fault : ManifestFault → FileFault
manifest_fault (manifest.BadLine at) = Refused (reason.BadLine at)
manifest_fault manifest.Memory = Memory

-- why a text has none
abbrev pub text_fault : TextFault → FileFault
text_fault (text.Unsettled at) = Refused (reason.Unsettled at)
text_fault text.Memory = Memory

-- why a class that reads has none
abbrev pub file_fault : RewriteFault → FileFault
file_fault (rewrite.Overlong index size) = Refused (reason.Overlong index size)
file_fault (rewrite.PoolFull count needed) = Refused (reason.PoolFull count needed)
file_fault (rewrite.Twins first second) = Refused (reason.Twins first second)
file_fault rewrite.Memory = Memory

-- why bytes have none that aren't a well-formed class
abbrev pub read_fault : ReadFault → FileFault
read_fault (read.Malformed fault) = Refused (reason.Malformed fault)
read_fault read.Memory = Memory

-- a class has none for this reason
abbrev pub IsClassFault : Rules → Text → FileFault → Type 0
IsClassFault rules bytes fault = IsFaultOf (class_image rules bytes) fault

-- a file of an application that defines these names has none for this reason
abbrev pub IsFileFault : Rules → List Text → Text → Text → FileFault → Type 0
IsFileFault rules defined path bytes fault = IsFaultOf (image_in rules defined path bytes) fault
