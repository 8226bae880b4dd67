-- `macroblock_chroma::content::both_in_range` meets its contract: the first 64 levels are Cb's, the others Cr's. Assumes nothing.
use mathlib.Core.Path.{sym, subst}
use borrow.Author.Rules.{rules}
use Rattle.whole.specs.Bounds.{Each}
use Rattle.whole.proofs.Lists.{each_take, each_drop}
use Rattle.macroblock_chroma.proofs.content.both_in_range.Goals as goal

pub one_in_range-requires : goal.one_in_range-requires
one_in_range-requires c =
    (c.requires.0, search rules, subst (Each 32768) (sym c.split_at.ensures.front) (each_take 32768 64 c.args.levels.now c.requires.3))

pub one_in_range-requires-then-one_in_range : goal.one_in_range-requires-then-one_in_range
one_in_range-requires-then-one_in_range c =
    (c.requires.1, search rules, subst (Each 32768) (sym c.split_at.ensures.back) (each_drop 32768 64 c.args.levels.now c.requires.3))
