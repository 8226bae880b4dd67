-- `record::inner::write_front` meets its contract: mark, number, the byte next to it, and what the kind has besides, one behind the other.
-- Assumes nothing.
use mathlib.Core.Path.{◌≡◌, refl, sym, ◌∙◌}
use mathlib.Core.List.{List, [], ◌∷◌, ◌++◌}
use Prim.Native.Nat.{ℕ, ◌+◌, ◌-◌}
use native.Mathlib.Omega.{arith}
use borrow.Author.Rules.{rules}
use borrow.Rule.Slice.PartMut.{put_mid}
use lib.ListN.{length, set}
use Rattle.std.proofs.lemmas.List.{places}
use Rattle.lists.proofs.Parts.{growing_none, growing_more, growing_part, growing_done}
use Rattle.octets.specs.Numbers.{bytes_of}
use Rattle.octets.proofs.Bits.{high_first}
use Rattle.record.proofs.inner.write_front.Goals as goal

-- the four stores over a list of this length
laid : (d a b more : List ℕ) (next : ℕ) → 5 + length more ≡ length d → length a ≡ 2 → length b ≡ 2
    → let x = set (put_mid 2 (4 - 2) (put_mid 0 (2 - 0) d a) b) 4 next in put_mid 5 (length x - 5) x more ≡ a ++ b ++ (next ∷ []) ++ more
laid d a b more next h k l =
    let p = put_mid 0 (2 - 0) d a in
    let q = put_mid 2 (4 - 2) p b in
    let x = set q 4 next in
    let one : length p ≡ length d = search (rules, places) in
    let two : length q ≡ length d = search (rules, places) in
    let three : length x ≡ length d = search (rules, places) in
    let four : length (put_mid 5 (length x - 5) x more) ≡ length x = search (rules, places) in
    let mark = growing_part a 2 (growing_none d) (omega arith) (omega arith) k in
    let number = growing_part b 4 mark (omega arith) (omega arith) l in
    let byte = growing_more next number (omega arith) in
    let all = growing_part more (length x) byte (omega arith) (omega arith) (omega arith) in
    growing_done all (omega (arith, four))

pub returns : goal.returns
returns c =
    let a = c.args in
    let mark : c.copy_from_slice.new.self ≡ bytes_of a.kind.mark = c.copy_from_slice.ensures.after ∙ c.to_be_bytes.ensures ∙ high_first a.kind.mark (search rules) in
    let number : c.copy_from_slice-2.new.self ≡ bytes_of a.number = c.copy_from_slice-2.ensures.after ∙ c.to_be_bytes-2.ensures ∙ high_first a.number (search rules) in
    let more = c.copy_from_slice-3.ensures.after in
    rw (mark, number, more) (laid a.front.now (bytes_of a.kind.mark) (bytes_of a.number) a.more.now a.next (c.requires.1 ∙ sym c.requires.0) refl refl)
