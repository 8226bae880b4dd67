-- What an answer is known by, and what the code answers behind the tests of SIZE and LENGTH.
--     same_sheeted             an answer is known by what it says and the sheet that it gives
--     sound_of                 what a size that holds tells
--     bad_flag, sheet_made     a law for each answer where the size holds and no length is missed
-- Assumes nothing.
use mathlib.Core.Path.{◌≡◌, sym, ap, subst, ◌∙◌}
use mathlib.Core.Bool.{true, cond}
use mathlib.Core.List.{List}
use Prim.Native.Nat.{ℕ, ◌*◌, ◌<◌}
use borrow.Author.Tests.{eq-eqb, ne_eqb}
use native.Mathlib.Omega.{arith}
use lib.Dec.{eqb}
use lib.IntN.{pos, ◌-ℤ◌}
use lib.ListN.{length}
use Rattle.lists.specs.Chain.{pass, stop, chain}
use Rattle.refusal.specs.declared.Refusal.{Refusal}
use Rattle.refusal.specs.declared.Refusal.TheVariants as refusal
use Rattle.refusal.proofs.Same.{says}
use Rattle.head.specs.Entry.{size_holds}
use Rattle.head.proofs.Heads.{size_tells}
use Rattle.picture.specs.Order.{Sound}
use Rattle.picture.specs.Plane.{layout_of, plane_length}
use Rattle.sheet.specs.Code.{of_totals, SumsOver, present_total, sheet_from, divided_from}
use Rattle.sheet.specs.Entry.{first_flag, sheet_tests, given_in, Sheets}
use Rattle.sheet.specs.Errors.{present_count}
use Rattle.sheet.specs.Means.{divided_once, sheet_of}
use Rattle.sheet.specs.declared.sums.Totals.{Totals}
use Rattle.sheet.proofs.Places.{absolute_sum, squared_sum, signed_sum}
use Rattle.std.specs.Prelude.{Result, Option}
use Rattle.refusal.specs.Number.{said}
use Rattle.sheet.specs.declared.Sheet.{Sheet}
use Rattle.std.specs.Prelude.{Ok, Err, Some, None}

pub same_sheeted : (x y : Result (Option Sheet) Refusal) → said x ≡ said y → given_in x ≡ given_in y → x ≡ y
same_sheeted (Ok s) (Ok t) e g = ap Ok g
same_sheeted (Ok s) (Err t) e g = cc
same_sheeted (Err r) (Ok t) e g = cc
same_sheeted (Err r) (Err t) e g = let p : r ≡ t = cc in ap Err p

pub sound_of : (width height : ℕ) → size_holds width height ≡ true → Sound (layout_of width height)
sound_of width height e = let s = size_tells width height e in record { some = s.some; wide = s.wide; high = s.high; rows = s.tall }

-- ---- behind SIZE and LENGTH

module _ (width height : ℕ) (original rebuilt map : List ℕ) where
  abbrev samples : ℕ
  samples = plane_length 16 (layout_of width height)

  refused : (r : Refusal) → chain (sheet_tests width height original rebuilt map) ≡ stop r → Sheets width height original rebuilt map (Err r)
  refused r e = record { says = says (sym e); sheet = simp e }

  module _ (s : size_holds width height ≡ true) (o : length original ≡ samples) (b : length rebuilt ≡ samples) (m : length map ≡ width * height) where
    pub bad_flag : {k : ℕ} → (k ≡ first_flag map) × (k < length map) → Sheets width height original rebuilt map (Err (refusal.Flags k))
    bad_flag {k} f =
        subst (λ (n : ℕ). Sheets width height original rebuilt map (Err (refusal.Flags n))) (sym f.0)
        (refused (refusal.Flags (first_flag map))
        (simp (s, eq-eqb (length original) samples o, eq-eqb (length rebuilt) samples b, eq-eqb (length map) (width * height) m, ne_eqb (first_flag map) (length map) (λ z. omega (arith, f.0, f.1)))))

    -- what count and sums make of the picture
    pub sheet_made : first_flag map ≡ length map → {n : ℕ} → n ≡ present_count (length map) map → (t : Totals)
        → SumsOver 4194304 (present_total (layout_of width height) map) original rebuilt (of_totals t)
        → (r : Option Sheet) → r ≡ divided_from n t → Sheets width height original rebuilt map (Ok r)
    sheet_made f {n} q t p r c =
        let l = layout_of width height in
        let v : chain (sheet_tests width height original rebuilt map) ≡ pass =
        simp (s, eq-eqb (length original) samples o, eq-eqb (length rebuilt) samples b, eq-eqb (length map) (width * height) m, eq-eqb (first_flag map) (length map) f) in
        let count : n ≡ present_count (width * height) map = q ∙ ap (λ (k : ℕ). present_count k map) m in
        let absolute = sym (absolute_sum original rebuilt l map ∙ (λ i. pos (sym p.is i).absolute)) in
        let squared = sym (squared_sum original rebuilt l map ∙ (λ i. pos (sym p.is i).squared)) in
        let signed = sym (signed_sum original rebuilt l map ∙ (λ i. pos (sym p.is i).rebuilt -ℤ pos (sym p.is i).original)) in
        let same : sheet_from n t ≡ sheet_of l original rebuilt map =
        λ i. record {
          absolute = divided_once (absolute i) (256 * count i);
          squared = divided_once (squared i) (256 * count i);
          signed = divided_once (signed i) (256 * count i);
        } in
        record { says = says (sym v); sheet = simp v (c ∙ (λ i. cond (eqb (count i) 0) None (Some (same i)))) }
