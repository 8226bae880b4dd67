-- What the tests of inspection come to.
--     lent_short, records_refused, records_fine      what is tested behind the head
--     head_refuses, inspects_by                      what a head tells, and the tests behind it
--     rebuilt_beside     beside a plane that does not differ in the macroblocks before m, macroblock m's record gives the decoder's samples
-- Assumes nothing.
use mathlib.Core.Path.{◌≡◌, sym, ap, ◌∙◌}
use mathlib.Core.List.{List, [], ◌∷◌, append_assoc}
use Prim.Native.Nat.{ℕ, ◌*◌, ◌<◌}
use native.Mathlib.Omega.{arith}
use lib.ListN.{length}
use Rattle.lists.specs.Chain.{pass, stop, chain}
use Rattle.lists.proofs.Chain.{chain_passed, chain_refused}
use Rattle.lists.proofs.First.{Searching}
use Rattle.lists.proofs.Tab.{length_tab}
use Rattle.refusal.specs.Number.{said}
use Rattle.refusal.specs.declared.Refusal.{Refusal}
use Rattle.refusal.specs.declared.Refusal.TheVariants as refusal
use Rattle.refusal.proofs.Same.{says, says_same}
use Rattle.head.specs.declared.Head.{Head}
use Rattle.head.specs.Entry.{ReadsHead, head_tests, long_at}
use Rattle.picture.specs.declared.Layout.{Layout}
use Rattle.picture.specs.Order.{count_of}
use Rattle.picture.specs.Plane.{plane_length}
use Rattle.picture.specs.Whole.{whole_of}
use Rattle.picture.proofs.Over.{made_beside}
use Rattle.macroblock.specs.Rebuild.{rebuilt_step}
use Rattle.macroblock.proofs.Looks.{rebuilt_step_law}
use Rattle.plane.specs.Decode.{luma_in, records_tests, body_tests, layout_in, decode_tests, rebuilt_from, cleared, decoded, decoded_plane}
use Rattle.plane.proofs.Entry.{LegalHead, plane_short, body_rest, head_refused}
use Rattle.inspection.specs.Inspect.{differ_at, differs_test, inspect_body_tests, inspect_tests, Inspects}
use Rattle.inspection.proofs.Differences.{like_before}
use Rattle.std.specs.Prelude.{Err, Result}

module _ (l : Layout) (place : ℕ) (file theirs : List ℕ) where
  pub lent_short : (length theirs ≡ plane_length 16 l → ⊥) → chain (inspect_body_tests l place file theirs) ≡ stop refusal.Length
  lent_short h = chain_refused (body_tests l place file theirs) (differs_test l (decoded l (luma_in file place)) theirs ∷ []) refusal.Length (plane_short l place file theirs h)

  module _ (long : length theirs ≡ plane_length 16 l) where
    pub records_refused : {r : Refusal} → chain (records_tests l place file) ≡ stop r → chain (inspect_body_tests l place file theirs) ≡ stop r
    records_refused {r} e = chain_refused (body_tests l place file theirs) (differs_test l (decoded l (luma_in file place)) theirs ∷ []) r (body_rest l place file theirs long ∙ e)

    pub records_fine : chain (records_tests l place file) ≡ pass → chain (inspect_body_tests l place file theirs) ≡ chain (differs_test l (decoded l (luma_in file place)) theirs ∷ [])
    records_fine e = chain_passed (body_tests l place file theirs) (differs_test l (decoded l (luma_in file place)) theirs ∷ []) (body_rest l place file theirs long ∙ e)

module _ (file theirs : List ℕ) where
  -- the decoder's refusals come first
  pub decoder_refuses : {r : Refusal} → chain (decode_tests file theirs) ≡ stop r → chain (inspect_tests file theirs) ≡ stop r
  decoder_refuses {r} e = chain_refused (decode_tests file theirs) (differs_test (layout_in file) (decoded_plane file) theirs ∷ []) r e

  pub decoder_accepts : chain (decode_tests file theirs) ≡ pass → chain (inspect_tests file theirs) ≡ chain (differs_test (layout_in file) (decoded_plane file) theirs ∷ [])
  decoder_accepts e = chain_passed (decode_tests file theirs) (differs_test (layout_in file) (decoded_plane file) theirs ∷ []) e

  pub head_refuses : {h : Result Head Refusal} {r : Refusal} → ReadsHead file h → h ≡ Err r → Inspects file theirs (Err r)
  head_refuses p e = says (sym (decoder_refuses (sym (says_same (head_refused file theirs p e).says))))

  pub inspects_by : {l : Layout} {long : ℕ} (r : Result (Unit {0}) Refusal) → LegalHead file l long → said r ≡ chain (inspect_body_tests l long file theirs) → Inspects file theirs r
  inspects_by {l} {long} r h d =
      let x : said r ≡ chain (inspect_body_tests (layout_in file) (long_at file) file theirs) = coe 0 1 (i. said r ≡ chain (inspect_body_tests (h.tells i) (h.ends i) file theirs)) d in
      let together = append_assoc (head_tests file) (body_tests (layout_in file) (long_at file) file theirs) (differs_test (layout_in file) (decoded_plane file) theirs ∷ []) in
      says (x ∙ sym (ap chain together ∙ chain_passed (head_tests file) (inspect_body_tests (layout_in file) (long_at file) file theirs) h.passed))

-- ---- one macroblock

pub rebuilt_beside : (l : Layout) → 0 < l.width → (records : ℕ → List ℕ) (theirs : List ℕ) → length theirs ≡ plane_length 16 l → (m : ℕ) → m < count_of l
    → Searching (differ_at l (decoded l records) theirs) (plane_length 16 l) (256 * m)
    → whole_of 16 l m (rebuilt_step l m (records m) theirs) ≡ whole_of 16 l m (decoded l records)
unfolding rebuilt_from
rebuilt_beside l some records theirs long m among s =
    made_beside 16 (omega arith) l some (λ k. rebuilt_step l k (records k)) (λ k h. rebuilt_step_law l some k h (records k)) (cleared (plane_length 16 l)) (length_tab (plane_length 16 l) _) m among
    theirs long (λ i h own. sym (like_before l some (decoded l records) theirs m (omega (arith, among)) s.none i own))
