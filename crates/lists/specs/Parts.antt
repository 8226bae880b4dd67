-- Lists that are made of parts. Assumes nothing.
use Rattle.std.specs.Prelude.{List, [], ◌++◌, ℕ, zero, suc, ◌+◌, length, take, drop}

-- the parts f 0, .., f (n - 1) one behind the other, each of any length
unfoldable pub parts : {A : Type 0} → ℕ → (ℕ → List A) → List A
parts zero f = []
parts (suc n) f = parts n f ++ f n

-- d with v in the place of as many elements from place a on
abbrev pub pasted : {A : Type 0} → ℕ → List A → List A → List A
pasted a v d = take a d ++ v ++ drop (a + length v) d

-- what is written goes over the front of what stood there; the rest keeps its elements
abbrev pub over : {A : Type 0} → List A → List A → List A
over new old = new ++ drop (length new) old
