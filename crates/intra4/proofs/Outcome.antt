-- By what an answer and a choice are known.
--     same_chosen     an answer of `choose` is known by what it says and what it brings
--     same_choice     a choice is known by what it picks
-- Assumes nothing.
use mathlib.Core.Path.{◌≡◌, sym, ap, ◌∙◌}
use mathlib.Core.List.{List}
use Prim.Native.Nat.{ℕ}
use Rattle.refusal.specs.declared.Refusal.{Refusal}
use Rattle.intra4.specs.declared.Chosen.{Chosen}
use Rattle.intra4.specs.declared.inner.Choice.{Choice}
use Rattle.intra4.specs.Samples.{Round}
use Rattle.intra4.specs.Rules.{samples_of, predicted}
use Rattle.intra4.specs.Choice.{at}
use Rattle.intra4.specs.Entry.{best_in, Picks}
use Rattle.std.specs.Prelude.{Err, Ok, Result}
use Rattle.refusal.specs.Number.{said}

pub same_chosen : (x y : Result Chosen Refusal) → said x ≡ said y → best_in x ≡ best_in y → x ≡ y
same_chosen (Ok x) (Ok y) e g = let p : x.mode ≡ y.mode = cc in let q : x.sad ≡ y.sad = cc in λ i. Ok (record { mode = p i; sad = q i })
same_chosen (Ok x) (Err r) e g = cc
same_chosen (Err r) (Ok y) e g = cc
same_chosen (Err r) (Err t) e g = let p : r ≡ t = cc in ap Err p

pub same_choice : {r : Round} {block : List ℕ} (x y : Choice) → Picks r block x → Picks r block y → x ≡ y
same_choice {r} {block} x y p q =
    let e : at x.mode x.sad ≡ at y.mode y.sad = p.best ∙ sym q.best in
    let m : x.mode ≡ y.mode = cc in
    let s : x.sad ≡ y.sad = cc in
    let l : x.prediction ≡ y.prediction = p.prediction ∙ ap (λ (k : ℕ). samples_of (predicted r k)) m ∙ sym q.prediction in
    λ i. record { mode = m i; sad = s i; prediction = l i }
