-- The content of a record of either kind, and that a decoder accepts the coder's record and rebuilds its macroblock as the coder did.
--     tests_whole, tests_fours, rebuilt_whole, rebuilt_fours     the tests and the step of a record, by its kind
--     content_legal               a record whose content is fine has a legal QP
--     content_kind                the refusals of a record's content are those of content
--     qp_record_from              the coder's record says the QP
--     content_own, step_again     of the coder's record: its content is fine; its macroblock is rebuilt as the coder rebuilt it
-- Assumes nothing.
use mathlib.Core.Path.{◌≡◌, refl, sym, ap, ◌∙◌}
use mathlib.Core.Bool.{Bool, true, false, cond}
use mathlib.Core.List.{List}
use Prim.Native.Nat.{ℕ, ◌*◌, ◌≤◌}
use Rattle.lists.specs.Bytes.{Bytes}
use Rattle.lists.specs.Chain.{pass, chain}
use Rattle.lists.proofs.Chain.{chain_exactly_if}
use Rattle.refusal.specs.Faults.{is_content}
use Rattle.refusal.proofs.Faults.{all_of}
use Rattle.quantizer.specs.Range.{highest}
use Rattle.quantizer.proofs.Range.{number_legal}
use Rattle.record.specs.Records.{is_whole, qp_in}
use Rattle.picture.specs.declared.Layout.{Layout}
use Rattle.macroblock4.specs.Code.{record_from4, coded_step4}
use Rattle.macroblock4.specs.Content.{content_tests4}
use Rattle.macroblock4.specs.Rebuild.{rebuilt_step4}
use Rattle.macroblock4.proofs.CodedRecord.{qp_said, content_own4, step_again4}
use Rattle.macroblock4.proofs.RecordFrom.{not_whole_from4}
use Rattle.macroblock16.specs.Code.{record_from16, coded_step16}
use Rattle.macroblock16.specs.Content.{content_tests16}
use Rattle.macroblock16.specs.Rebuild.{rebuilt_step16}
use Rattle.macroblock16.proofs.CodedRecord.{qp_said16, is_whole_from16, content_own16, step_again16}
use Rattle.macroblock.specs.Code.{record_from, coded_step}
use Rattle.macroblock.specs.Content.{content_tests}
use Rattle.macroblock.specs.Rebuild.{rebuilt_step}
use Rattle.macroblock.proofs.RecordFrom.{whichever, together}

module _ (l : Layout) (m : ℕ) (part : List ℕ) where
  pub tests_whole : is_whole part ≡ true → content_tests l m part ≡ content_tests16 l m part
  unfolding content_tests
  tests_whole e = rw e

  pub tests_fours : is_whole part ≡ false → content_tests l m part ≡ content_tests4 l m part
  unfolding content_tests
  tests_fours e = rw e

  pub rebuilt_whole : (plane : List ℕ) → is_whole part ≡ true → rebuilt_step l m part plane ≡ rebuilt_step16 l m part plane
  unfolding rebuilt_step
  rebuilt_whole plane e = rw e

  pub rebuilt_fours : (plane : List ℕ) → is_whole part ≡ false → rebuilt_step l m part plane ≡ rebuilt_step4 l m part plane
  unfolding rebuilt_step
  rebuilt_fours plane e = rw e

  pub content_legal : chain (content_tests l m part) ≡ pass → qp_in part ≤ highest
  content_legal e = by (is_whole part) refl
    where
      by : (b : Bool) → is_whole part ≡ b → qp_in part ≤ highest
      by true q = number_legal (16 * m) (qp_in part) ((chain_exactly_if (content_tests16 l m part)).passes.0 (sym (ap chain (tests_whole q)) ∙ e)).0
      by false q = number_legal (16 * m) (qp_in part) ((chain_exactly_if (content_tests4 l m part)).passes.0 (sym (ap chain (tests_fours q)) ∙ e)).0

  -- its refusals are those of content
  pub content_kind : all_of is_content (content_tests l m part) ≡ true
  unfolding content_tests
  content_kind = by (is_whole part)
    where
      by : (b : Bool) → all_of is_content (cond b (content_tests16 l m part) (content_tests4 l m part)) ≡ true
      by true = refl
      by false = refl

-- ---- the coder's record

module _ (l : Layout) (qp : ℕ) (legal : qp ≤ highest) (original : List ℕ) (bytes : Bytes original) (m : ℕ) (before : List ℕ) (small : Bytes before) where
  abbrev four : List ℕ
  four = record_from4 l qp original m before

  abbrev sixteen : List ℕ
  sixteen = record_from16 l qp original m before

  pub qp_record_from : qp_in (record_from l qp original m before) ≡ qp
  unfolding record_from
  qp_record_from =
      whichever (λ (r : List ℕ). qp_in r ≡ qp) (together l qp original m before) (qp_said16 l qp original m before) (qp_said l qp legal original bytes m before small)

  pub content_own : chain (content_tests l m (record_from l qp original m before)) ≡ pass
  unfolding record_from
  content_own = by (together l qp original m before)
    where
      by : (b : Bool) → chain (content_tests l m (cond b sixteen four)) ≡ pass
      by true = ap chain (tests_whole l m sixteen (is_whole_from16 l qp original m before)) ∙ content_own16 l qp original m before legal bytes small
      by false = ap chain (tests_fours l m four (not_whole_from4 l qp original m before)) ∙ content_own4 l qp legal original bytes m before small

  pub step_again : rebuilt_step l m (record_from l qp original m before) before ≡ coded_step l qp original m before
  unfolding record_from coded_step
  step_again = by (together l qp original m before)
    where
      by : (b : Bool) → rebuilt_step l m (cond b sixteen four) before ≡ cond b (coded_step16 l qp original m before) (coded_step4 l qp original m before)
      by true = rebuilt_whole l m sixteen before (is_whole_from16 l qp original m before) ∙ step_again16 l qp original m before legal bytes small
      by false = rebuilt_fours l m four before (not_whole_from4 l qp original m before) ∙ step_again4 l qp legal original bytes m before small
