-- What stood in the plane at entry has no value for the decoder.
--     start_has_no_value     the plane of any records is the same from any two planes at the start
--     entry_has_no_value     two planes that were lent, and decoded from one file, are the same
-- Assumes nothing.
use mathlib.Core.Path.{◌≡◌, sym, ◌∙◌}
use mathlib.Core.List.{List}
use Prim.Native.Nat.{ℕ, ◌<◌}
use native.Mathlib.Omega.{arith}
use lib.ListN.{length}
use Rattle.lists.proofs.Chain.{holds_new}
use Rattle.refusal.proofs.Same.{says_same}
use Rattle.picture.specs.declared.Layout.{Layout}
use Rattle.picture.specs.Plane.{plane_length}
use Rattle.picture.proofs.Steps.{picture_start_has_no_value}
use Rattle.macroblock.specs.Rebuild.{rebuilt_step}
use Rattle.macroblock.proofs.Looks.{rebuilt_step_law}
use Rattle.plane.specs.Decode.{rebuilt_from, decoded_plane, Decodes}
use Rattle.std.specs.Prelude.{Ok}

pub start_has_no_value : (l : Layout) → 0 < l.width → (records : ℕ → List ℕ) (p q : List ℕ) → length p ≡ plane_length 16 l → length q ≡ plane_length 16 l
    → rebuilt_from l records p ≡ rebuilt_from l records q
unfolding rebuilt_from
start_has_no_value l some records p q hp hq =
    picture_start_has_no_value 16 (omega arith) l some (λ m. rebuilt_step l m (records m)) (λ m h. rebuilt_step_law l some m h (records m)) p q hp hq

-- a plane that was decoded is the file's
pub decoded_is : (file before after : List ℕ) → Decodes file before (Ok tt) after → after ≡ decoded_plane file
decoded_is file before after p = holds_new before (sym (says_same p.says)) p.wrote

pub entry_has_no_value : (file p q after other : List ℕ) → Decodes file p (Ok tt) after → Decodes file q (Ok tt) other → after ≡ other
entry_has_no_value file p q after other d e = decoded_is file p after d ∙ sym (decoded_is file q other e)
