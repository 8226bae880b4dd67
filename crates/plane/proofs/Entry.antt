-- What the tests of decoding come to.
--     plane_short, body_rest                   what is tested behind the head
--     records_passed                           of the records the form passed, and the content
--     body_done                                what the code leaves behind the head
--     macroblocks_some                         a size that holds has macroblocks
--     head_read, head_refused, decodes_by     what a head tells, and the tests behind it
-- Assumes nothing.
use Rattle.refusal.specs.Number.{said}
use mathlib.Core.Path.{◌≡◌, sym, ap, ◌∙◌}
use mathlib.Core.Bool.{true}
use mathlib.Core.List.{List}
use Prim.Native.Nat.{ℕ, ◌*◌, ◌<◌}
use native.Mathlib.Nat.{mul-le-mul_left}
use native.Mathlib.Omega.{arith}
use borrow.Author.Tests.{eq-eqb, ne_eqb}
use lib.ListN.{length}
use Rattle.lists.specs.Chain.{Verdict, pass, stop, chain, written}
use Rattle.lists.proofs.Chain.{chain_passed, chain_refused}
use Rattle.lists.proofs.Chains.{chain_front, chain_behind}
use Rattle.refusal.specs.declared.Refusal.{Refusal}
use Rattle.refusal.specs.declared.Refusal.TheVariants as refusal
use Rattle.refusal.proofs.Same.{says, says_same}
use Rattle.head.specs.declared.Head.{Head}
use Rattle.head.specs.Entry.{ReadsHead, head_tests, long_at, size_holds, rows_hold}
use Rattle.head.proofs.Heads.{size_tells, rows_of_law, head_told}
use Rattle.picture.specs.declared.Layout.{Layout}
use Rattle.picture.specs.Order.{Sound}
use Rattle.picture.specs.Plane.{plane_length}
use Rattle.plane.specs.Code.{in_slices}
use Rattle.plane.specs.Decode.{luma_in, forms_tests, contents_tests, records_tests, body_tests, layout_in, decoded, decoded_plane, DecodesBody, Decodes}
use Rattle.std.specs.Prelude.{Err, Ok, Result}

module _ (l : Layout) (place : ℕ) (file plane : List ℕ) where
  pub plane_short : (length plane ≡ plane_length 16 l → ⊥) → chain (body_tests l place file plane) ≡ stop refusal.Length
  plane_short h = rw (ne_eqb (length plane) (plane_length 16 l) h)

  pub body_rest : length plane ≡ plane_length 16 l → chain (body_tests l place file plane) ≡ chain (records_tests l place file)
  body_rest long = rw (eq-eqb (length plane) (plane_length 16 l) long)

  -- what rebuilding asks
  pub records_passed : chain (records_tests l place file) ≡ pass → (chain (forms_tests l place file) ≡ pass) × (chain (contents_tests l place file) ≡ pass)
  records_passed e = (chain_front (forms_tests l place file) (contents_tests l place file) e, chain_behind (forms_tests l place file) (contents_tests l place file) e)

-- ---- what the code leaves behind the head

module _ (l : Layout) (place : ℕ) (file plane : List ℕ) where
  pub body_done : {after : List ℕ} → chain (body_tests l place file plane) ≡ pass → after ≡ decoded l (luma_in file place) → DecodesBody l place file plane (Ok tt) after
  body_done e q = record { says = sym e; wrote = q ∙ ap (λ (v : Verdict Refusal). written v (decoded l (luma_in file place)) plane) (sym e) }

-- ---- the head

pub sound_slices : (width height rows : ℕ) → size_holds width height ≡ true → rows_hold height rows ≡ true → Sound (in_slices width height rows)
sound_slices width height rows e h = let s = size_tells width height e in record { some = s.some; wide = s.wide; high = s.high; rows = (rows_of_law height rows h).0 }

-- a picture has macroblocks
pub macroblocks_some : (width height : ℕ) → size_holds width height ≡ true → 0 < width * height
macroblocks_some width height e = let s = size_tells width height e in omega (arith, mul-le-mul_left 1 s.some, mul-le-mul_left width s.tall, s.some)

-- a head was read, and tells of this picture and of its own length
pub record LegalHead (file : List ℕ) (l : Layout) (long : ℕ) : Type 0 where
  pub passed : chain (head_tests file) ≡ pass
  pub tells : l ≡ layout_in file
  pub ends : long ≡ long_at file
  pub sound : Sound l

pub head_read : (file : List ℕ) {h : Result Head Refusal} {it : Head} → ReadsHead file h → h ≡ Ok it
    → LegalHead file (record { width = it.width; height = it.height; rows = it.rows }) it.long
head_read file {h} {it} p e =
    let t = head_told file p e in
    record {
      passed = t.passed;
      tells = λ i. record { width = t.wide i; height = t.high i; rows = t.sliced i };
      ends = t.behind;
      sound = record { some = t.sized.some; wide = t.sized.wide; high = t.sized.high; rows = t.some_rows };
    }

module _ (file before : List ℕ) where
  pub head_refused : {h : Result Head Refusal} {r : Refusal} → ReadsHead file h → h ≡ Err r → Decodes file before (Err r) before
  head_refused {h} {r} p e =
      let v = chain_refused (head_tests file) (body_tests (layout_in file) (long_at file) file before) r (sym (says_same p.says) ∙ ap said e) in
      record { says = says (sym v); wrote = ap (λ (w : Verdict Refusal). written w (decoded_plane file) before) (sym v) }

  pub decodes_by : {l : Layout} {long : ℕ} {r : Result (Unit {0}) Refusal} {after : List ℕ} → LegalHead file l long → DecodesBody l long file before r after → Decodes file before r after
  decodes_by {l} {long} {r} {after} h d =
      let v = chain_passed (head_tests file) (body_tests (layout_in file) (long_at file) file before) h.passed in
      let x : DecodesBody (layout_in file) (long_at file) file before r after = coe 0 1 (i. DecodesBody (h.tells i) (h.ends i) file before r after) d in
      record { says = says (x.says ∙ sym v); wrote = x.wrote ∙ ap (λ (w : Verdict Refusal). written w (decoded_plane file) before) (sym v) }
