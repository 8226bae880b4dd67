-- `dc::dc_levels` meets its contract: the tests' verdict, and the levels written over a copy of the values. Assumes nothing.
use mathlib.Core.Path.{◌≡◌, refl, sym, ap, subst, ◌∙◌}
use lib.IntN.{pos, negsuc}
use lib.ListN.{length}
use Rattle.whole.proofs.Range.{none_each}
use Rattle.transform.proofs.Sides.{kept}
use Rattle.residual.proofs.Entry.{residuals_legal}
use Rattle.dc.specs.Dc.{DcCount}
use Rattle.dc.proofs.dc_levels.Goals as goal

pub levels_over-requires : goal.levels_over-requires
levels_over-requires g c =
    let a = c.args in
    let t = residuals_legal g.row.N (negsuc 4079) (pos 4080) a.qp a.dc.now (length a.levels.now) c.in_ok-quantizer.ensures refl in
    -- n values have been copied
    let many : length c.copy.new.to ≡ g.row.N = ap length c.copy.ensures ∙ t.long in (
      rw t.number t.legal,
      subst DcCount (sym many) c.requires,
      kept 4080 c.copy.ensures (none_each (negsuc 4079) (pos 4080) a.dc.now 4080 tt tt t.none),
    )
