-- `plane::content::test_records` meets its contract: luma's content, and in a colour file then chroma's. Assumes nothing.
use Rattle.std.proofs.lemmas.Result.{err_from_is_err_and}
use mathlib.Core.Path.{◌≡◌, sym, ap, ◌∙◌}
use mathlib.Core.Bool.{Bool}
use mathlib.Core.List.{List}
use Prim.Native.Nat.{ℕ, ◌+◌, ◌-◌, ◌<◌, ◌≤◌}
use borrow.Author.Rules.{rules}
use lib.ListN.{length, take, drop}
use Rattle.lists.specs.Chain.{Verdict, chain}
use Rattle.refusal.specs.declared.Refusal.{Refusal}
use Rattle.record.specs.Records.{length_from}
use Rattle.picture.specs.declared.Layout.{Layout}
use Rattle.picture.specs.Order.{count_of}
use Rattle.macroblock.specs.Content.{content_tests}
use Rattle.plane.specs.Decode.{luma_number, luma_in}
use Rattle.plane.specs.Walk.{AtMacroblock}
use Rattle.plane.proofs.Walking.{part_inside, part_is, luma_among, luma_long, tests_refused, tests_mono}
use Rattle.plane.proofs.content.test_records.Goals as goal

module _ {l : Layout} {start : ℕ} {file : List ℕ} {colour : Bool} {place m : ℕ} (among : m < count_of l) (at : AtMacroblock l start file colour place m) {long : ℕ} (is : long ≡ length_from place file) where
  -- what is lent lies in the file,
  inside : place + long ≤ length file
  inside = part_inside l file start at.fine (luma_number file start m) (luma_among l file start m among) at.at is

  -- and what was tested is macroblock m's luma record
  tested : {v : Verdict Refusal} → v ≡ chain (content_tests l m (take (place + long - place) (drop place file))) → v ≡ chain (content_tests l m (luma_in file start m))
  tested e =
      e
      ∙ ap (λ (part : List ℕ). chain (content_tests l m part))
      (part_is l file start at.fine (luma_number file start m) (luma_among l file start m among) at.at is)

pub overflow_add-end : goal.overflow_add-end
overflow_add-end c = let h = inside c.requires.0.macroblock c.requires.1 c.length_from.ensures in search rules

pub slice_bounds-test_macroblock-end : goal.slice_bounds-test_macroblock-end
slice_bounds-test_macroblock-end c = inside c.requires.0.macroblock c.requires.1 c.length_from.ensures

pub test_macroblock-requires : goal.test_macroblock-requires
test_macroblock-requires c =
    let a = c.args in
    (c.requires.0, luma_long a.layout a.file.now a.start a.m c.requires.0.macroblock c.requires.1.fine c.requires.1.at c.length_from.ensures)

pub test_chroma_record-requires-clause-m_value : goal.test_chroma_record-requires-clause-m_value
test_chroma_record-requires-clause-m_value c = sym (tested c.requires.0.macroblock c.requires.1 c.length_from.ensures c.in_ok-test_macroblock.ensures)

pub returns-in_err-test_macroblock : goal.returns-in_err-test_macroblock
returns-in_err-test_macroblock c =
    let a = c.args in
    let p = err_from_is_err_and c.from_residual.result c.from_residual.ensures.1 in
    rw (p.1, p.2) (sym (tests_refused a.layout a.file.now a.start a.m (sym (tested c.requires.0.macroblock c.requires.1 c.length_from.ensures c.in_err-test_macroblock.ensures))))

pub returns : goal.returns
returns c =
    let a = c.args in
    sym (tests_mono a.layout a.file.now a.start a.m (sym c.requires.1.told ∙ c.if-colour.false)
    ∙ sym (tested c.requires.0.macroblock c.requires.1 c.length_from.ensures c.in_ok-test_macroblock.ensures))
