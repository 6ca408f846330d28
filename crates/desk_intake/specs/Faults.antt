-- How the faults of folders, ledger, first reading and graph halt a run.
use Rattle.desk_folders.specs.declared.folders.FolderFault.{FolderFault}
use Rattle.desk_folders.specs.declared.folders.FolderFault.TheVariants as folder
use Rattle.desk_graph.specs.declared.graph.GraphFault.{GraphFault}
use Rattle.desk_graph.specs.declared.graph.GraphFault.TheVariants as graph
use Rattle.desk_ledger.specs.declared.keeper.KeeperFault.{KeeperFault}
use Rattle.desk_ledger.specs.declared.keeper.KeeperFault.TheVariants as keeper
use Rattle.desk_readings.specs.declared.faults.NoteFault.{NoteFault}
use Rattle.desk_readings.specs.declared.faults.NoteFault.TheVariants as note
use Rattle.desk_report.specs.declared.status.LimitKind.TheVariants.{FileSize}
use Rattle.desk_report.specs.declared.status.Status.TheVariants as status
use Rattle.desk_intake.specs.declared.halts.Halt.{Halt}
use Rattle.desk_intake.specs.declared.halts.Halt.TheVariants as halt

abbrev pub halt_of_folders : FolderFault → Halt
halt_of_folders folder.Failed = halt.Folders
halt_of_folders folder.Memory = halt.Memory

abbrev pub halt_of_note : NoteFault → Halt
halt_of_note note.Memory = halt.Memory
halt_of_note note.Folders = halt.Folders
halt_of_note (note.TooLarge path) = halt.Answer (status.Limit FileSize path)

abbrev pub halt_of_graph : GraphFault → Halt
halt_of_graph (graph.NameClash defined other image) = halt.Answer (status.NameClash defined other image)
halt_of_graph (graph.Stranded path name) = halt.Answer (status.Stranded path name)
halt_of_graph graph.Memory = halt.Memory

abbrev pub halt_of_keeper : KeeperFault → Halt
halt_of_keeper keeper.Failed = halt.Ledger
halt_of_keeper keeper.Memory = halt.Memory
