-- Stack map frames and verification types (JVMS 4.7.4).
use Rattle.std.specs.Prelude.{[], ◌∷◌}
use Rattle.desk_base.specs.declared.kinds.UseKind.TheVariants as kinds
use Rattle.desk_base.specs.declared.faults.FaultKind.TheVariants as faults
use Rattle.desk_format.specs.Layouts.{Layout}
use Rattle.desk_format.specs.Rows.{u2, rows, many, at, from, one_of}

-- verification_type_info
abbrev pub verification_type : Layout
verification_type = one_of faults.TypeTag (
    from 0 6 Layout.nothing  -- Top, Integer, Float, Double, Long, Null, UninitializedThis
    ∷ at 7 (Layout.index kinds.Class)  -- Object: its class
    ∷ at 8 u2  -- Uninitialized: the offset of its `new`
    ∷ [])

-- stack_map_frame; tags 128 to 246 are reserved
abbrev pub frame : Layout
frame = one_of faults.FrameTag (
    from 0 63 Layout.nothing  -- same_frame
    ∷ from 64 127 verification_type  -- same_locals_1_stack_item_frame
    ∷ at 247 (rows (u2 ∷ verification_type ∷ []))  -- same_locals_1_stack_item_frame_extended
    ∷ from 248 250 u2  -- chop_frame
    ∷ at 251 u2  -- same_frame_extended
    ∷ at 252 (rows (u2 ∷ verification_type ∷ []))  -- append_frame: one local,
    ∷ at 253 (rows (u2 ∷ verification_type ∷ verification_type ∷ []))  -- two,
    ∷ at 254 (rows (u2 ∷ verification_type ∷ verification_type ∷ verification_type ∷ []))  -- three
    ∷ at 255 (rows (u2 ∷ many verification_type ∷ many verification_type ∷ []))  -- full_frame: locals, stack
    ∷ [])
