-- Demand 3 of any call of `forward`, over its own reading: a holds the call's arguments, r its answer, e what is lent at its exit.
--     forward_done_exactly_if     it succeeds exactly if both slices have sixteen numbers and each residual lies in -255..255
--     forward_carried_back        where it succeeds, the weights carry what it left back to 400 times the residuals
--     forward_products            where two calls succeed, 400 times the summed products of the residuals are the weighted summed products of what they left
--     forward_coefficients        where it succeeds, what it left is the coefficients of a block in -255..255
--     forward_one_block           where two calls succeed and left the same, the residuals were the same
-- Assumes nothing.
use mathlib.Core.Path.{◌≡◌, sym, ◌∙◌}
use mathlib.Core.Logic.{◌↔◌}
use mathlib.Core.List.{List}
use native.Mathlib.Omega.{arith}
use contract.Lifetimes.{Lfts}
use denote.Triple.Clauses.{AtExit}
use borrow.Author.Tests.{eqb-true}
use borrow.Fn.Kinds.{Dens, res_t, ended_of}
use lib.IntN.{ℤ, pos, ◌*ℤ◌}
use lib.ListN.{length}
use Rattle.lists.specs.Chain.{pass, chain}
use Rattle.lists.proofs.Chain.{chain_exactly_if, holds_new}
use Rattle.whole.specs.Notation.{minus}
use Rattle.whole.proofs.Range.{each_none}
use Rattle.refusal.specs.Number.{said}
use Rattle.refusal.proofs.Same.{says_same}
use Rattle.transform.specs.Carried.{weighted, carried_back, scaled, products, Coefficients}
use Rattle.transform.specs.Entry.{outside, forward_tests, Takes}
use Rattle.transform.specs.Forward.{forward}
use Rattle.transform.proofs.Carried.{carried_back_law, products_agree, one_block_only}
use Rattle.transform.proofs.Entry.{in_range, small}
use Rattle.transform.proofs.forward.Kinds as call
use Rattle.transform.proofs.forward.Reads as reads

-- the tests of `forward` pass exactly then
pub takes_exactly_if : (x before : List ℤ) → (chain (forward_tests x before) ≡ pass) ↔ Takes x before
takes_exactly_if x before = (
  λ e.
      let a = (chain_exactly_if (forward_tests x before)).passes.0 e in
      let long = eqb-true (length x) 16 a.0 in
      record { long = long; room = eqb-true (length before) 16 a.1.0; small = small x before long (omega (arith, eqb-true (outside x) 16 a.1.1.0)) },
  λ t. in_range x before t.long t.room (omega (arith, t.long, each_none (minus 255) (pos 255) x 255 tt tt t.small)),
)

module _ (κs : Lfts 2) (a : Dens κs call.ps) (r : (res_t call.r κs).Denot) (e : AtExit (ended_of 2 call.ps call.r) κs) (p : reads.Learnt κs a r e) where
  pub forward_done_exactly_if : (said r ≡ pass) ↔ Takes a.0.now a.1.0.now
  forward_done_exactly_if =
      let t = takes_exactly_if a.0.now a.1.0.now in
      (λ done. t.0 (sym (says_same p.says) ∙ done), λ h. says_same p.says ∙ t.1 h)

  module _ (done : said r ≡ pass) where
    -- what it left is the coefficients
    pub forward_left : e.1.0.now ≡ forward a.0.now
    forward_left = holds_new a.1.0.now (sym (says_same p.says) ∙ done) p.wrote

    pub forward_carried_back : carried_back e.1.0.now ≡ scaled (pos 400) a.0.now
    forward_carried_back = rw forward_left (carried_back_law a.0.now (forward_done_exactly_if.0 done).long)

    pub forward_coefficients : Coefficients e.1.0.now
    forward_coefficients =
        let t = forward_done_exactly_if.0 done in
        record { block = a.0.now; long = t.long; small = t.small; is = sym forward_left }

module _
    (κs κs' : Lfts 2) (a : Dens κs call.ps) (a' : Dens κs' call.ps) (r : (res_t call.r κs).Denot) (r' : (res_t call.r κs').Denot)
    (e : AtExit (ended_of 2 call.ps call.r) κs) (e' : AtExit (ended_of 2 call.ps call.r) κs')
    (p : reads.Learnt κs a r e) (p' : reads.Learnt κs' a' r' e') (done : said r ≡ pass) (done' : said r' ≡ pass)
  where
    pub forward_products : pos 400 *ℤ products a.0.now a'.0.now ≡ products (weighted e.1.0.now) e'.1.0.now
    forward_products =
        products_agree a.0.now a'.0.now
        ∙ (λ i. products (weighted (sym (forward_left κs a r e p done) i)) (sym (forward_left κs' a' r' e' p' done') i))

    pub forward_one_block : e.1.0.now ≡ e'.1.0.now → a.0.now ≡ a'.0.now
    forward_one_block same =
        one_block_only a.0.now a'.0.now ((forward_done_exactly_if κs a r e p).0 done).long ((forward_done_exactly_if κs' a' r' e' p').0 done').long
        (sym (forward_left κs a r e p done) ∙ same ∙ forward_left κs' a' r' e' p' done')
