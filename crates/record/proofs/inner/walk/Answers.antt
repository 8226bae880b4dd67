-- `record::inner::walk` meets its contract: the walk over the records passed stands at the place. Assumes nothing.
use mathlib.Core.Path.{◌≡◌, sym, ap, ◌∙◌}
use mathlib.Core.Bool.{Bool}
use mathlib.Core.List.{List}
use Prim.Native.Nat.{ℕ, ◌+◌}
use native.Mathlib.Omega.{arith}
use borrow.Author.Rules.{rules}
use lib.ListN.{drop}
use Rattle.lists.specs.Fold.{fold}
use Rattle.record.specs.Faults.{form_of, stepped, onward, walk_of}
use Rattle.record.specs.Kinds.{expected_in}
use Rattle.record.specs.declared.Expected.{Expected}
use Rattle.record.proofs.Walks.{fine_inside, walk_more, walk_stays}
use Rattle.record.proofs.inner.walk.Goals as goal
use Rattle.std.specs.Prelude.{Ok, Err, Result, MatchResult, IsErrAnd}
use Rattle.std.proofs.lemmas.Result.{err_from_is_err_and}
use Rattle.record.specs.declared.Faulty.{Faulty}
use Rattle.refusal.specs.declared.Fault.{Fault}

-- the walk goes on behind a record, or stops, by what the test answered with its place
abbrev behind : Result ℕ Faulty → ℕ → Result ℕ Faulty
behind (Ok long) place = Ok (place + long)
behind (Err it) place = Err it

placed : (place : ℕ) (f : Result ℕ Fault) (m : Result ℕ Faulty) {Q : Fault → Faulty → Type 0} → MatchResult f (λ x. m ≡ Ok x) (λ e. IsErrAnd m (Q e))
    → ((e : Fault) (it : Faulty) → Q e it → it ≡ record { fault = e; place = place }) → stepped f place ≡ behind m place
placed place (Ok x) m h q = sym (ap (λ w. behind w place) h)
placed place (Err e) (Ok x) h q = absurd h
placed place (Err e) (Err it) h q = ap Err (sym (q e it h))

-- of what answered a length, the test was passed
fine : (place : ℕ) (f : Result ℕ Fault) (m : Result ℕ Faulty) → stepped f place ≡ behind m place → {long : ℕ} → m ≡ Ok long → f ≡ Ok long
fine place (Ok x) (Ok y) s {long} e =
    let p : place + x ≡ place + y = cc in
    let q : x ≡ y = omega (arith, p) in
    let r : y ≡ long = cc in
    ap Ok (q ∙ r)
fine place (Ok x) (Err it) s e = cc
fine place (Err g) (Ok y) s e = cc
fine place (Err g) (Err it) s e = cc

module _ (colour : Bool) (file : List ℕ) (start k place : ℕ) {e : Expected} (expected : e ≡ expected_in colour k) {f : Result ℕ Fault} (test : f ≡ form_of e (drop place file)) where
  -- what the test of a record answered, of the one that is expected here
  answered : f ≡ form_of (expected_in colour k) (drop place file)
  answered = test ∙ ap (λ (x : Expected). form_of x (drop place file)) expected

  -- one record more, by this answer
  tested : (m : Result ℕ Faulty) → stepped f place ≡ behind m place → walk_of colour k file start ≡ Ok place → walk_of colour (k + 1) file start ≡ behind m place
  tested m is stands =
      walk_more colour file k start
      ∙ ap (onward colour file k) stands
      ∙ ap (λ (x : Result ℕ Fault). stepped x place) (sym answered)
      ∙ is

pub loop-k-init : goal.loop-k-init
unfolding walk_of fold
loop-k-init c = search rules

pub returns-in_err-long : goal.returns-in_err-long
returns-in_err-long c =
    let a = c.args in
    let place = c.loop-k.place in
    let p = err_from_is_err_and c.from_residual.result c.from_residual.ensures.1 in
    let is = placed place c.form-tested.result c.map_err.result c.map_err.ensures.cases (λ e it q. search rules) in
    rw (p.1, p.2)
    (sym (
    walk_stays a.colour a.file.now (c.loop-k.k + 1) a.count a.start (omega arith)
    (tested a.colour a.file.now a.start c.loop-k.k place c.expected_in.ensures c.form-tested.ensures c.map_err.result is c.loop-k.invariant.1 ∙ ap (λ w. behind w place) c.in_err-long.was)
    ))

pub overflow_add-place : goal.overflow_add-place
overflow_add-place c =
    let a = c.args in
    let is = placed c.loop-k.place c.form-tested.result c.map_err.result c.map_err.ensures.cases (λ e it q. search rules) in
    let f = fine c.loop-k.place c.form-tested.result c.map_err.result is c.in_ok-long.was in
    let h =
    fine_inside a.colour a.file.now c.loop-k.k c.loop-k.place _
    (sym (answered a.colour a.file.now a.start c.loop-k.k c.loop-k.place c.expected_in.ensures c.form-tested.ensures) ∙ f) in
    search rules

pub loop-k-preserved : goal.loop-k-preserved
loop-k-preserved c =
    let a = c.args in
    let place = c.loop-k.place in
    let is = placed place c.form-tested.result c.map_err.result c.map_err.ensures.cases (λ e it q. search rules) in (
      omega arith,
      tested a.colour a.file.now a.start c.loop-k.k place c.expected_in.ensures c.form-tested.ensures c.map_err.result is c.loop-k.invariant.1 ∙ ap (λ w. behind w place) c.in_ok-long.was,
    )
