-- Each hint by its name.
use Rattle.std.proofs.Common.{◌≡◌, refl}
use Rattle.desk_hints.specs.declared.hints.Hint.{Hint}
use Rattle.desk_hints.specs.declared.hints.Hint.TheVariants as hint

pub data Is (h : Hint) : Type 0 where
  is_Refusals : h ≡ hint.Refusals → Is h
  is_Differs : h ≡ hint.Differs → Is h
  is_Memory : h ≡ hint.Memory → Is h
  is_Folders : h ≡ hint.Folders → Is h
  is_FileAsFolder : h ≡ hint.FileAsFolder → Is h
  is_NoFolder : h ≡ hint.NoFolder → Is h
  is_Ledger : h ≡ hint.Ledger → Is h
  is_Output : h ≡ hint.Output → Is h
  is_Usage : h ≡ hint.Usage → Is h
  is_Nested : h ≡ hint.Nested → Is h
  is_NoRenames : h ≡ hint.NoRenames → Is h
  is_NotUtf8 : h ≡ hint.NotUtf8 → Is h
  is_Escape : h ≡ hint.Escape → Is h
  is_BadPackage : h ≡ hint.BadPackage → Is h
  is_BadKey : h ≡ hint.BadKey → Is h
  is_BadValue : h ≡ hint.BadValue → Is h
  is_MissingText : h ≡ hint.MissingText → Is h
  is_Chain1 : h ≡ hint.Chain1 → Is h
  is_Chain2 : h ≡ hint.Chain2 → Is h
  is_Chain3 : h ≡ hint.Chain3 → Is h
  is_Chain4 : h ≡ hint.Chain4 → Is h
  is_Chain5 : h ≡ hint.Chain5 → Is h
  is_Chain6 : h ≡ hint.Chain6 → Is h
  is_Chain7 : h ≡ hint.Chain7 → Is h
  is_Chain8 : h ≡ hint.Chain8 → Is h
  is_Chain9 : h ≡ hint.Chain9 → Is h
  is_Files : h ≡ hint.Files → Is h
  is_PathLength : h ≡ hint.PathLength → Is h
  is_FileSize : h ≡ hint.FileSize → Is h
  is_RuleFiles : h ≡ hint.RuleFiles → Is h
  is_RuleSize : h ≡ hint.RuleSize → Is h
  is_Both : h ≡ hint.Both → Is h
  is_Clash : h ≡ hint.Clash → Is h
  is_NameClash : h ≡ hint.NameClash → Is h
  is_Stranded : h ≡ hint.Stranded → Is h
  is_Other : h ≡ hint.Other → Is h
  is_OtherRules : h ≡ hint.OtherRules → Is h
  is_OtherTarget : h ≡ hint.OtherTarget → Is h
  is_OtherTargetRules : h ≡ hint.OtherTargetRules → Is h
  is_OtherSource : h ≡ hint.OtherSource → Is h
  is_OtherSourceRules : h ≡ hint.OtherSourceRules → Is h
  is_OtherSourceTarget : h ≡ hint.OtherSourceTarget → Is h
  is_OtherSourceTargetRules : h ≡ hint.OtherSourceTargetRules → Is h
  is_Moved : h ≡ hint.Moved → Is h
  is_NotRenames : h ≡ hint.NotRenames → Is h
  is_NothingToInvert : h ≡ hint.NothingToInvert → Is h
  is_Overlap : h ≡ hint.Overlap → Is h

pub is_one : (h : Hint) → Is h
is_one hint.Refusals = is_Refusals refl
is_one hint.Differs = is_Differs refl
is_one hint.Memory = is_Memory refl
is_one hint.Folders = is_Folders refl
is_one hint.FileAsFolder = is_FileAsFolder refl
is_one hint.NoFolder = is_NoFolder refl
is_one hint.Ledger = is_Ledger refl
is_one hint.Output = is_Output refl
is_one hint.Usage = is_Usage refl
is_one hint.Nested = is_Nested refl
is_one hint.NoRenames = is_NoRenames refl
is_one hint.NotUtf8 = is_NotUtf8 refl
is_one hint.Escape = is_Escape refl
is_one hint.BadPackage = is_BadPackage refl
is_one hint.BadKey = is_BadKey refl
is_one hint.BadValue = is_BadValue refl
is_one hint.MissingText = is_MissingText refl
is_one hint.Chain1 = is_Chain1 refl
is_one hint.Chain2 = is_Chain2 refl
is_one hint.Chain3 = is_Chain3 refl
is_one hint.Chain4 = is_Chain4 refl
is_one hint.Chain5 = is_Chain5 refl
is_one hint.Chain6 = is_Chain6 refl
is_one hint.Chain7 = is_Chain7 refl
is_one hint.Chain8 = is_Chain8 refl
is_one hint.Chain9 = is_Chain9 refl
is_one hint.Files = is_Files refl
is_one hint.PathLength = is_PathLength refl
is_one hint.FileSize = is_FileSize refl
is_one hint.RuleFiles = is_RuleFiles refl
is_one hint.RuleSize = is_RuleSize refl
is_one hint.Both = is_Both refl
is_one hint.Clash = is_Clash refl
is_one hint.NameClash = is_NameClash refl
is_one hint.Stranded = is_Stranded refl
is_one hint.Other = is_Other refl
is_one hint.OtherRules = is_OtherRules refl
is_one hint.OtherTarget = is_OtherTarget refl
is_one hint.OtherTargetRules = is_OtherTargetRules refl
is_one hint.OtherSource = is_OtherSource refl
is_one hint.OtherSourceRules = is_OtherSourceRules refl
is_one hint.OtherSourceTarget = is_OtherSourceTarget refl
is_one hint.OtherSourceTargetRules = is_OtherSourceTargetRules refl
is_one hint.Moved = is_Moved refl
is_one hint.NotRenames = is_NotRenames refl
is_one hint.NothingToInvert = is_NothingToInvert refl
is_one hint.Overlap = is_Overlap refl
