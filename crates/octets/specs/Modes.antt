-- "modes (8; block 2k in the low four bits, 2k+1 in the high four)" (01, "Plane and record file"). Assumes nothing.
use Rattle.std.specs.Prelude.{ℕ, ◌+◌, ◌*◌, ◌/◌, ◌%◌, cond, List, ◌==◌, slice_index}
use Rattle.lists.specs.Tab.{tab}

-- two modes in a byte
abbrev pub paired : ℕ → ℕ → ℕ
paired low high = high * 16 + low

-- twice n modes in n bytes
unfoldable pub packed : ℕ → List ℕ → List ℕ
packed n modes = tab n (λ k. paired (slice_index modes (2 * k)) (slice_index modes (2 * k + 1)))

-- the mode of a block, of the byte that holds it
abbrev pub unpaired : ℕ → ℕ → ℕ
unpaired block byte = cond (block % 2 == 0) (byte % 16) (byte / 16)
