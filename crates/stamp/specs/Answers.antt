-- What the word w of an exported function tells, and the words of demand 1 (01, "What is sent back, and in which order it is tested").
-- Assumes nothing.
use Rattle.std.specs.Prelude.{◌≡◌, List, ◌↔◌, ℕ, ◌/◌, ◌%◌, take}
use Rattle.lists.specs.Chain.{Test, AllPass, RefusedWith}
use Rattle.refusal.specs.Number.{number_of, place_of}
use Rattle.refusal.specs.declared.Refusal.{Refusal}
use Rattle.fleecebutton.specs.Word.{places}

-- "Success is 0": the word's low byte
abbrev pub Succeeds : ℕ → Type 0
Succeeds w = w % 256 ≡ 0

-- above it stands the value of a success
abbrev pub value_told : ℕ → ℕ
value_told w = w / 256

-- where a mode is chosen: its number, and its SAD
abbrev pub mode_told : ℕ → ℕ
mode_told w = value_told w % 16

abbrev pub sad_told : ℕ → ℕ
sad_told w = value_told w / 16

-- where a file is written: the bytes of the area that it takes, whose number is the value
abbrev pub written_file : ℕ → (area : List ℕ) → List ℕ
written_file w area = take (value_told w) area

-- "A refusal is a number and a place": the word has those of r, the place up to 2^56
pub record Tells (w : ℕ) (r : Refusal) : Type 0 where
  pub number : w % 256 ≡ number_of r
  pub place : w / 256 ≡ place_of r % places

-- "given exactly if", "Tests run in the table's order": success exactly if all tests pass; a refusal is that of the first test that fails, and
-- whatever is no success is one
pub record Answers (tests : List (Test Refusal)) (w : ℕ) : Type 0 where
  pub done : Succeeds w ↔ AllPass tests
  pub refused : (r : Refusal) → RefusedWith tests r → Tells w r
  pub otherwise : (Succeeds w → ⊥) → (r : Refusal) × RefusedWith tests r × Tells w r

-- "outputs keep their bytes"
abbrev pub KeepsIfRefused : {A : Type 0} → ℕ → (before after : A) → Type 0
KeepsIfRefused w before after = (Succeeds w → ⊥) → after ≡ before
