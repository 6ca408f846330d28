use Rattle.std.proofs.Common.{refl}
use Rattle.desk_hints.proofs.Named.{is_one, is_Refusals, is_Differs, is_Memory, is_Folders, is_FileAsFolder, is_NoFolder, is_Ledger, is_Output, is_Usage, is_Nested, is_NoRenames, is_NotUtf8, is_Escape, is_BadPackage, is_BadKey, is_BadValue, is_MissingText, is_Chain1, is_Chain2, is_Chain3, is_Chain4, is_Chain5, is_Chain6, is_Chain7, is_Chain8, is_Chain9, is_Files, is_PathLength, is_FileSize, is_RuleFiles, is_RuleSize, is_Both, is_Clash, is_NameClash, is_Stranded, is_Other, is_OtherRules, is_OtherTarget, is_OtherTargetRules, is_OtherSource, is_OtherSourceRules, is_OtherSourceTarget, is_OtherSourceTargetRules, is_Moved, is_NotRenames, is_NothingToInvert, is_Overlap}
use Rattle.desk_hints.proofs.hints.Hint.text.Goals as goal

-- the table has the text of each hint at its place
pub returns : goal.returns
returns c = elim (is_one c.args.self) [
  | is_Refusals e ↦ rw e refl
  | is_Differs e ↦ rw e refl
  | is_Memory e ↦ rw e refl
  | is_Folders e ↦ rw e refl
  | is_FileAsFolder e ↦ rw e refl
  | is_NoFolder e ↦ rw e refl
  | is_Ledger e ↦ rw e refl
  | is_Output e ↦ rw e refl
  | is_Usage e ↦ rw e refl
  | is_Nested e ↦ rw e refl
  | is_NoRenames e ↦ rw e refl
  | is_NotUtf8 e ↦ rw e refl
  | is_Escape e ↦ rw e refl
  | is_BadPackage e ↦ rw e refl
  | is_BadKey e ↦ rw e refl
  | is_BadValue e ↦ rw e refl
  | is_MissingText e ↦ rw e refl
  | is_Chain1 e ↦ rw e refl
  | is_Chain2 e ↦ rw e refl
  | is_Chain3 e ↦ rw e refl
  | is_Chain4 e ↦ rw e refl
  | is_Chain5 e ↦ rw e refl
  | is_Chain6 e ↦ rw e refl
  | is_Chain7 e ↦ rw e refl
  | is_Chain8 e ↦ rw e refl
  | is_Chain9 e ↦ rw e refl
  | is_Files e ↦ rw e refl
  | is_PathLength e ↦ rw e refl
  | is_FileSize e ↦ rw e refl
  | is_RuleFiles e ↦ rw e refl
  | is_RuleSize e ↦ rw e refl
  | is_Both e ↦ rw e refl
  | is_Clash e ↦ rw e refl
  | is_NameClash e ↦ rw e refl
  | is_Stranded e ↦ rw e refl
  | is_Other e ↦ rw e refl
  | is_OtherRules e ↦ rw e refl
  | is_OtherTarget e ↦ rw e refl
  | is_OtherTargetRules e ↦ rw e refl
  | is_OtherSource e ↦ rw e refl
  | is_OtherSourceRules e ↦ rw e refl
  | is_OtherSourceTarget e ↦ rw e refl
  | is_OtherSourceTargetRules e ↦ rw e refl
  | is_Moved e ↦ rw e refl
  | is_NotRenames e ↦ rw e refl
  | is_NothingToInvert e ↦ rw e refl
  | is_Overlap e ↦ rw e refl
]
