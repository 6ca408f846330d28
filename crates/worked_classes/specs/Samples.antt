-- Small class files, and what becomes of them when they are damaged.
use Rattle.std.specs.Prelude.{ℕ, zero, suc, ◌+◌, List, [], ◌∷◌, ◌++◌, length, take, drop, replicate, codes, map, Option, Some}
use Rattle.std.specs.List.{range_with_len}
use Rattle.std.specs.Int.{w32, to_be_bytes}
use Rattle.desk_base.specs.Names.{Text}
use Rattle.desk_base.specs.declared.faults.Malformed.{Malformed}
use Rattle.desk_base.specs.declared.faults.FaultKind.TheVariants as faults
use Rattle.desk_format.specs.PoolBytes.{two}
use Rattle.desk_format.specs.Classes.{class_fault}
use Rattle.worked_classes.specs.declared.samples.Sample.{Sample}
use Rattle.worked_classes.specs.declared.samples.Sample.TheVariants as samples
use Rattle.worked_classes.specs.declared.samples.TheConstants.{CLASS_A}

-- bytes with those from an offset on exchanged
abbrev pub put : ℕ → List ℕ → List ℕ → List ℕ
put at new bytes = take at bytes ++ new ++ drop (at + length new) bytes

-- ---- more entries, and attributes

abbrev pub utf8_entry : Text → List ℕ
utf8_entry t = 1 ∷ (two (length t) ++ t)

-- an entry of a Long
abbrev pub long_entry : List ℕ
long_entry = 5 ∷ replicate 8 0

-- what stands behind the pool of CLASS_A, without the count of the attributes
abbrev pub plain_body : List ℕ
plain_body = 0 ∷ 33 ∷ 0 ∷ 2 ∷ 0 ∷ 4 ∷ 0 ∷ 0 ∷ 0 ∷ 0 ∷ 0 ∷ 0 ∷ []

-- CLASS_A with a count, further entries, and something in place of its body
abbrev pub with_entries : ℕ → List ℕ → List ℕ → List ℕ
with_entries count entries body = put 8 (two count) (take 39 CLASS_A) ++ entries ++ body

-- CLASS_A with entries 5 to 7, and an attribute that entry 5 names, of a length and with a body
abbrev pub with_attribute : Text → ℕ → List ℕ → List ℕ
with_attribute name size body =
    with_entries 8 (utf8_entry name ++ utf8_entry (codes "LA;") ++ utf8_entry (codes "v"))
    (plain_body ++ (two 1 ++ (two 5 ++ (to_be_bytes w32 size ++ body))))

-- an array of one element value, so many times, and a string
abbrev pub arrays : ℕ → List ℕ
arrays zero = 115 ∷ 0 ∷ 1 ∷ []
arrays (suc n) = 91 ∷ 0 ∷ 1 ∷ arrays n

-- one annotation with one element value of so many bytes more than eight
abbrev pub with_element : List ℕ → List ℕ
with_element value = with_attribute (codes "RuntimeVisibleAnnotations") (8 + length value) (two 1 ++ (two 6 ++ (two 1 ++ (two 7 ++ value))))

-- one type annotation that begins with these bytes
abbrev pub with_type_annotation : List ℕ → List ℕ
with_type_annotation bytes = with_attribute (codes "RuntimeVisibleTypeAnnotations") (2 + length bytes) (two 1 ++ bytes)

-- methods of the name `Code` and the descriptor `()V` in place of the members of CLASS_A
abbrev pub with_methods : ℕ → List ℕ → List ℕ
with_methods count methods =
    with_entries 8 (utf8_entry (codes "Code") ++ utf8_entry (codes "()V") ++ utf8_entry (codes "StackMapTable"))
    (take 10 plain_body ++ (two count ++ (methods ++ two 0)))

-- one method with a Code of so many bytes in all, which begins with a length of code and what stands behind that
abbrev pub with_code : ℕ → ℕ → List ℕ → List ℕ
with_code size code_length rest =
    with_methods 1 (two 0 ++ (two 5 ++ (two 6 ++ (two 1 ++ (two 5 ++ (to_be_bytes w32 size ++ (two 0 ++ (two 0 ++ (to_be_bytes w32 code_length ++ rest)))))))))

-- a StackMapTable of a length, with one frame that begins with these bytes, in a Code of one instruction
abbrev pub with_table_of : ℕ → List ℕ → List ℕ
with_table_of size bytes = with_code (21 + length bytes) 1 (177 ∷ (two 0 ++ (two 1 ++ (two 7 ++ (to_be_bytes w32 size ++ (two 1 ++ bytes))))))

abbrev pub with_frame : List ℕ → List ℕ
with_frame bytes = with_table_of (2 + length bytes) bytes

-- ---- the samples

abbrev pub bytes_of : Sample → List ℕ
bytes_of samples.Whole = CLASS_A
bytes_of samples.OtherMagic = put 0 (203 ∷ []) CLASS_A
bytes_of samples.OneByteMore = CLASS_A ++ 0 ∷ []
bytes_of samples.ZeroByte = put 13 (0 ∷ []) CLASS_A
bytes_of samples.Major44 = put 6 (two 44) CLASS_A
bytes_of samples.Major65 = put 6 (two 65) CLASS_A
bytes_of samples.Major66 = put 6 (two 66) CLASS_A
bytes_of samples.Minor1 = put 4 (two 1 ++ two 56) CLASS_A
bytes_of samples.Preview = put 4 (two 65535 ++ two 65) CLASS_A
bytes_of samples.CountZero = put 8 (two 0) CLASS_A
bytes_of samples.UnknownTag = put 10 (2 ∷ []) CLASS_A
bytes_of samples.LongInside = with_entries 7 long_entry (drop 39 CLASS_A)
bytes_of samples.LongLast = with_entries 6 long_entry (drop 39 CLASS_A)
bytes_of samples.SecondSlot = with_entries 8 (long_entry ++ 8 ∷ two 6) (drop 39 CLASS_A)
bytes_of samples.HandleKind = with_entries 6 (15 ∷ 0 ∷ two 1) (drop 39 CLASS_A)
bytes_of samples.NoDescriptor = with_entries 6 (12 ∷ (two 1 ++ two 1)) (drop 39 CLASS_A)
bytes_of samples.ArrayName = take 10 CLASS_A ++ (utf8_entry (codes "[A") ++ drop 14 CLASS_A)
bytes_of samples.InnerText = with_attribute (codes "InnerClasses") 10 (two 1 ++ (two 1 ++ replicate 6 0))
bytes_of samples.LongAttribute = with_attribute (codes "SourceFile") 3 (two 1 ++ 0 ∷ [])
bytes_of samples.ShortAttribute = with_attribute (codes "SourceFile") 1 (0 ∷ [])
bytes_of samples.PastEnd = with_attribute (codes "SourceFile") 3 (two 1)
bytes_of samples.Unknown = with_attribute (codes "Frob") 3 (1 ∷ 2 ∷ 3 ∷ [])
bytes_of samples.Misplaced = with_attribute (codes "Code") 3 (1 ∷ 2 ∷ 3 ∷ [])
bytes_of samples.Nested64 = with_element (arrays 63)
bytes_of samples.Nested65 = with_element (arrays 64)
bytes_of samples.NoCode = with_code 12 0 (two 0 ++ two 0)
bytes_of samples.ReservedFrame = with_frame (128 ∷ [])
bytes_of samples.UnknownType = with_frame (64 ∷ 9 ∷ [])
bytes_of samples.UnknownElement = with_element (88 ∷ 0 ∷ 1 ∷ [])
bytes_of samples.UnknownTarget = with_type_annotation (2 ∷ 0 ∷ [])
bytes_of samples.UnknownPath = with_type_annotation (19 ∷ 1 ∷ 4 ∷ 0 ∷ [])
bytes_of samples.PastCode = with_table_of 100 (0 ∷ [])
bytes_of samples.ShortInCode = with_table_of 1 (0 ∷ [])
bytes_of samples.TwoMethods = with_methods 2 (two 0 ++ (two 5 ++ (two 6 ++ (two 0 ++ (two 0 ++ (two 5 ++ (two 6 ++ two 0)))))))

-- the file ends within the item at an offset
abbrev pub cut_fault : ℕ → Option Malformed
cut_fault at = Some (record { kind = faults.Truncated; at = at })

-- CLASS_A cut to each number of bytes below its size
abbrev pub cut_faults : List (Option Malformed)
cut_faults = map (λ n. class_fault (take n CLASS_A)) (range_with_len 0 53)
