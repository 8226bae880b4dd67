-- The records of the file (01, "Plane and record file"; 02, requests 01 and 05). Assumes nothing.
use Rattle.std.specs.Prelude.{Bool, false, cond, List, [], ◌∷◌, ◌++◌, ℕ, ◌+◌, ◌*◌, ◌/◌, eqb, leb, ℤ, length, take, drop, get_or}
use Rattle.lists.specs.Fold.{fold}
use Rattle.lists.specs.Tab.{tab}
use Rattle.record.specs.Kinds.{in_fours, in_whole, in_chroma, record_length}
use Rattle.octets.specs.Modes.{packed, unpaired}
use Rattle.octets.specs.Numbers.{bytes_of, number_at, level_bytes, level_at, signed_byte, signed_in}
use Rattle.octets.specs.Sum.{summed}
use Rattle.record.specs.declared.Kind.{Kind}

-- what stands before the levels of a record of a kind: its mark, its number, and what this kind has besides
abbrev pub front_with : Kind → ℕ → List ℕ → List ℕ
front_with kind number more = bytes_of kind.mark ++ bytes_of number ++ more

-- a record of a kind
unfoldable pub record_with : Kind → ℕ → List ℕ → List ℤ → List ℕ
record_with kind number more levels = summed (front_with kind number more ++ level_bytes levels)

-- level i of a record of a kind
abbrev pub level_with : Kind → ℕ → List ℕ → ℤ
level_with kind i bytes = level_at (kind.front + 2 * i) bytes

-- and all its levels
unfoldable pub all_levels_in : Kind → List ℕ → List ℤ
all_levels_in kind bytes = tab kind.levels (λ i. level_with kind i bytes)

-- "Macroblock, 527 bytes: 4D 42, number (2), QP (1), modes (8 ..), levels (512: block order, zigzag, signed 16 bits), sum."
unfoldable pub record_of : ℕ → ℕ → List ℕ → List ℤ → List ℕ
record_of number qp modes levels = record_with in_fours number (qp ∷ packed 8 modes) levels

-- "New record, 520 bytes: mark 4D 36, number, QP, mode, 16 DC levels, 16 times 15 AC levels, sum" (02, request 01)
unfoldable pub record_whole : (number qp mode : ℕ) → List ℤ → List ℕ
record_whole number qp mode levels = record_with in_whole number (qp ∷ mode ∷ []) levels

-- "A chroma record, 265 bytes, mark 4D 43, .. with number, both offsets (signed bytes), mode, 64 levels of Cb then of Cr .., sum" (02,
-- request 05)
unfoldable pub record_chroma : (number : ℕ) → (cb cr : ℤ) → (mode : ℕ) → List ℤ → List ℕ
record_chroma number cb cr mode levels = record_with in_chroma number (signed_byte cb ∷ signed_byte cr ∷ mode ∷ []) levels

-- what a macroblock's record says, of whatever kind
abbrev pub number_in : List ℕ → ℕ
number_in bytes = number_at 2 bytes

abbrev pub qp_in : List ℕ → ℕ
qp_in bytes = get_or bytes 4 0

-- of which of the two luma kinds it is, where it is of one
abbrev pub is_whole : List ℕ → Bool
is_whole bytes = eqb (number_at 0 bytes) in_whole.mark

-- of the 16x16 kind alone: its one mode
abbrev pub whole_mode_in : List ℕ → ℕ
whole_mode_in bytes = get_or bytes 5 0

-- and of the 4x4 kind alone: the mode of a block
abbrev pub mode_in : ℕ → List ℕ → ℕ
mode_in block bytes = unpaired block (get_or bytes (5 + block / 2) 0)

-- level k of a block, in zigzag order
abbrev pub level_in : ℕ → ℕ → List ℕ → ℤ
level_in block k bytes = level_with in_fours (16 * block + k) bytes

-- the sixteen levels of a block
unfoldable pub levels_in : ℕ → List ℕ → List ℤ
levels_in block bytes = tab 16 (λ k. level_in block k bytes)

-- of the chroma kind alone: both offsets and the mode
abbrev pub cb_offset_in : List ℕ → ℤ
cb_offset_in bytes = signed_in (get_or bytes 4 0)

abbrev pub cr_offset_in : List ℕ → ℤ
cr_offset_in bytes = signed_in (get_or bytes 5 0)

abbrev pub chroma_mode_in : List ℕ → ℕ
chroma_mode_in bytes = get_or bytes 6 0

-- how long the record is that these bytes begin with, by its mark; 0 where there is no mark or an unknown one
unfoldable pub length_in : List ℕ → ℕ
length_in bytes = cond (leb 2 (length bytes)) (record_length (number_at 0 bytes)) 0

-- and its bytes
abbrev pub first_in : List ℕ → List ℕ
first_in bytes = take (length_in bytes) bytes

-- the same of the record that begins at a place of the file
abbrev pub length_from : ℕ → List ℕ → ℕ
length_from place file = length_in (drop place file)

unfoldable pub record_at : ℕ → List ℕ → List ℕ
record_at place file = first_in (drop place file)

-- where record m begins, if record 0 begins at a place: each says by its mark how long it is
unfoldable pub record_place : ℕ → List ℕ → ℕ → ℕ
record_place m file start = fold m (λ k place. place + length_from place file) start

-- these bytes begin with the mark of a chroma record
abbrev pub chroma_next : List ℕ → Bool
chroma_next bytes = cond (leb 2 (length bytes)) (eqb (number_at 0 bytes) in_chroma.mark) false

-- "The file is colour exactly if its first macroblock has one": a chroma record stands behind the first record, which begins at a place (02,
-- request 05)
unfoldable pub colour_at : (place : ℕ) → List ℕ → Bool
colour_at place file = chroma_next (drop (place + length_from place file) file)
