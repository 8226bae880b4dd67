-- What the tests of a record's form come to.
--     cut_mark, mark_wrong, cut_rest, number_wrong, sum_wrong, form_fine the six verdicts
--     FineForm, passed_sound, fine_sound                                    what is known of a record whose form is fine
--     late_room                                                          number and sum are tested only in a record that is all there
--     formed_pass                                                        a form by its verdict
-- Assumes nothing.
use mathlib.Core.Path.{◌≡◌, refl, sym, ap, ◌∙◌}
use mathlib.Core.Bool.{true, false}
use mathlib.Core.List.{List}
use mathlib.Core.Logic.{inl, inr}
use Prim.Native.Nat.{ℕ, ◌<◌, ◌≤◌}
use native.Mathlib.Omega.{arith}
use borrow.Author.Tests.{eq-eqb, ne_eqb, le-leb, lt-leb, eqb-true, leb-true}
use lib.ListN.{length}
use Rattle.lists.specs.Chain.{Verdict, pass, stop, chain, RefusedWith}
use Rattle.lists.proofs.Chain.{chain_exactly_if}
use Rattle.record.specs.Faults.{form_tests, formed, form_of}
use Rattle.record.specs.Kinds.{length_of, known, kind_of, length_known, as_expected}
use Rattle.octets.specs.Numbers.{number_at}
use Rattle.record.specs.Records.{number_in, length_in, first_in}
use Rattle.octets.specs.Sum.{sum_holds}
use Rattle.refusal.specs.declared.Fault.TheVariants.{CutMark, Mark, CutRest, Number, Sum}
use Rattle.refusal.specs.Faults.{late}
use Rattle.refusal.specs.declared.Fault.{Fault}
use Rattle.refusal.proofs.Faults.{false_not_true}
use Rattle.record.specs.declared.Expected.{Expected}
use Rattle.record.specs.declared.Kind.{Kind}
use Rattle.record.proofs.Marks.{length_known_law, kind_known, length_there}
use Rattle.std.specs.Prelude.{Err, Ok}

pub fine_not_faulty : {long : ℕ} {fault : Fault} → Ok long ≡ Err fault → ⊥
fine_not_faulty e = let z : ◌≡◌ {A = ℕ} 0 1 = cc in omega arith

module _ (expected : Expected) (bytes : List ℕ) where
  -- what is known of a record whose form is fine
  pub record FineForm : Type 0 where
    pub kind : Kind
    pub named : kind_of (number_at 0 bytes) ≡ known kind
    pub as_expected_law : as_expected expected.chroma (kind_of (number_at 0 bytes)) ≡ true
    pub long : length_in bytes ≡ length_of kind
    pub some : 6 ≤ length_in bytes
    pub room : length_in bytes ≤ length bytes
    pub own : number_in bytes ≡ expected.number
    pub sum : sum_holds (first_in bytes) ≡ true

  pub cut_mark : length bytes < 2 → form_of expected bytes ≡ Err CutMark
  unfolding form_of
  cut_mark h = simp (lt-leb 2 (length bytes) h)

  module _ (two : 2 ≤ length bytes) where
    pub mark_wrong : as_expected expected.chroma (kind_of (number_at 0 bytes)) ≡ false → form_of expected bytes ≡ Err Mark
    unfolding form_of
    mark_wrong e = simp (le-leb 2 (length bytes) two, e)

    module _ (marked : as_expected expected.chroma (kind_of (number_at 0 bytes)) ≡ true) where
      pub cut_rest : length bytes < length_in bytes → form_of expected bytes ≡ Err CutRest
      unfolding form_of
      cut_rest h = simp (le-leb 2 (length bytes) two, marked, lt-leb (length_in bytes) (length bytes) h)

      module _ (room : length_in bytes ≤ length bytes) where
        pub number_wrong : (number_in bytes ≡ expected.number → ⊥) → form_of expected bytes ≡ Err Number
        unfolding form_of
        number_wrong e =
            simp (le-leb 2 (length bytes) two, marked, le-leb (length_in bytes) (length bytes) room, ne_eqb (number_in bytes) expected.number e)

        module _ (own : number_in bytes ≡ expected.number) where
          pub sum_wrong : sum_holds (first_in bytes) ≡ false → form_of expected bytes ≡ Err Sum
          unfolding form_of
          sum_wrong e =
              simp (le-leb 2 (length bytes) two, marked, le-leb (length_in bytes) (length bytes) room, eq-eqb (number_in bytes) expected.number own, e)

          pub form_fine : sum_holds (first_in bytes) ≡ true → form_of expected bytes ≡ Ok (length_in bytes)
          unfolding form_of
          form_fine e =
              simp (le-leb 2 (length bytes) two, marked, le-leb (length_in bytes) (length bytes) room, eq-eqb (number_in bytes) expected.number own, e)

  -- number and sum are tested only in a record that is all there
  pub late_room : (fault : Fault) → late fault ≡ true → chain (form_tests expected bytes) ≡ stop fault → (6 ≤ length_in bytes) × (length_in bytes ≤ length bytes)
  late_room fault h e = by (((chain_exactly_if (form_tests expected bytes)).refuses fault).0 e)
    where
      by : RefusedWith (form_tests expected bytes) fault → (6 ≤ length_in bytes) × (length_in bytes ≤ length bytes)
      by (inl (a, q)) = absurd (false_not_true (sym (ap late q) ∙ h))
      by (inr (a, inl (b, q))) = absurd (false_not_true (sym (ap late q) ∙ h))
      by (inr (a, inr (b, inl (c, q)))) = absurd (false_not_true (sym (ap late q) ∙ h))
      by (inr (a, inr (b, inr (c, rest)))) =
          (omega (arith, length_there bytes (leb-true 2 (length bytes) a), length_known_law (number_at 0 bytes) expected.chroma b), leb-true (length_in bytes) (length bytes) c)

  -- ---- a form by its verdict

  pub formed_pass : (long : ℕ) → form_of expected bytes ≡ Ok long → (chain (form_tests expected bytes) ≡ pass) × (long ≡ length_in bytes)
  unfolding form_of
  formed_pass long e = by (chain (form_tests expected bytes)) refl e
    where
      by : (v : Verdict Fault) → chain (form_tests expected bytes) ≡ v → formed v (length_in bytes) ≡ Ok long
          → (chain (form_tests expected bytes) ≡ pass) × (long ≡ length_in bytes)
      by pass p q = (p, cc)
      by (stop f) p q = absurd (fine_not_faulty (sym q))

  pub passed_sound : chain (form_tests expected bytes) ≡ pass → FineForm
  passed_sound v =
      let a = (chain_exactly_if (form_tests expected bytes)).passes.0 v in
      let l = length_there bytes (leb-true 2 (length bytes) a.0) in
      let k = kind_known (number_at 0 bytes) expected.chroma a.1.0 in
      record {
        kind = k.0;
        named = k.1;
        as_expected_law = a.1.0;
        long = l ∙ ap length_known k.1;
        some = omega (arith, l, length_known_law (number_at 0 bytes) expected.chroma a.1.0);
        room = leb-true (length_in bytes) (length bytes) a.1.1.0;
        own = eqb-true (number_in bytes) expected.number a.1.1.1.0;
        sum = a.1.1.1.1.0;
      }

  pub fine_sound : (long : ℕ) → form_of expected bytes ≡ Ok long → (long ≡ length_in bytes) × FineForm
  fine_sound long e = let v = formed_pass long e in (v.1, passed_sound v.0)
