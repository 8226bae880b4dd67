-- The contracts of `predict` determine what its functions answer and write. Assumes nothing.
use mathlib.Core.Path.{refl, sym, ◌∙◌}
use mathlib.Core.List.{List}
use Prim.Native.Nat.{ℕ}
use Rattle.unique.specs.Unique.{Unique}
use Rattle.refusal.proofs.Same.{says_same, same_answer}
use Rattle.intra4.proofs.Outcome.{same_chosen, same_choice}
use Rattle.intra4.proofs.predict.Kinds as predict
use Rattle.intra4.proofs.predict.Reads as predict_reads
use Rattle.intra4.proofs.choose.Kinds as choose
use Rattle.intra4.proofs.choose.Reads as choose_reads
use Rattle.intra4.proofs.inner.flag.Kinds as flag
use Rattle.intra4.proofs.inner.flag.Reads as flag_reads
use Rattle.intra4.proofs.inner.all.Kinds as all
use Rattle.intra4.proofs.inner.all.Reads as all_reads
use Rattle.intra4.proofs.inner.permitted.Kinds as permitted
use Rattle.intra4.proofs.inner.permitted.Reads as permitted_reads
use Rattle.intra4.proofs.inner.fill.Kinds as fill
use Rattle.intra4.proofs.inner.fill.Reads as fill_reads
use Rattle.intra4.proofs.inner.chosen.Kinds as chosen
use Rattle.intra4.proofs.inner.chosen.Reads as chosen_reads

pub predict_unique : Unique 2 predict.ps predict.r predict_reads.Learnt (List ℕ) (λ κs e. e.1.1.1.0.now)
predict_unique κs a x y e f p q = (same_answer x y (says_same p.says ∙ sym (says_same q.says)), p.wrote ∙ sym q.wrote)

pub choose_unique : Unique 3 choose.ps choose.r choose_reads.Learnt (List ℕ) (λ κs e. e.1.1.1.0.now)
choose_unique κs a x y e f p q = (same_chosen x y (says_same p.says ∙ sym (says_same q.says)) (p.best ∙ sym q.best), p.wrote ∙ sym q.wrote)

pub flag_unique : Unique 0 flag.ps flag.r flag_reads.Learnt (Unit {0}) (λ κs e. tt)
flag_unique κs a x y e f p q = (p ∙ sym q, refl)

pub all_unique : Unique 0 all.ps all.r all_reads.Learnt (Unit {0}) (λ κs e. tt)
all_unique κs a x y e f p q = (p ∙ sym q, refl)

pub permitted_unique : Unique 0 permitted.ps permitted.r permitted_reads.Learnt (Unit {0}) (λ κs e. tt)
permitted_unique κs a x y e f p q = (p ∙ sym q, refl)

pub fill_unique : Unique 2 fill.ps fill.r fill_reads.Learnt (List ℕ) (λ κs e. e.1.1.1.0.now)
fill_unique κs a x y e f p q = (refl, p ∙ sym q)

pub chosen_unique : Unique 2 chosen.ps chosen.r chosen_reads.Learnt (Unit {0}) (λ κs e. tt)
chosen_unique κs a x y e f p q = (same_choice x y p q, refl)
