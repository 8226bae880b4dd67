-- A solver for identities of commutative rings over ℤ: an expression's normal form is computed, and where two have one normal form they have one
-- value. The proof of an identity is one line that ends in `refl`:
--     (a + b) (a - b) = a a - b b     ring (a ∷ b ∷ []) ((var 0 ⊕ var 1) ⊗ (var 0 ⊖ var 1)) (var 0 ⊗ var 0 ⊖ var 1 ⊗ var 1) refl
-- The list gives the variables' values, which may be any terms. All definitions are `abbrev`, so `value` of a written-out expression is the
-- expression of ℤ by computation, and an expression may be written by functions of one's own.
--     Expression: var, con, _⊕_, _⊖_, _⊗_, neg; value, values     expressions, and what they come to
--     Polynomial, normal, normals                                 the normal form: a sorted sum of terms
--     ring, rings                                                 the solver, for one identity and for a list of them
-- Assumes nothing.
use mathlib.Core.Path.{◌≡◌, refl, sym, ◌∙◌, ap, subst}
use mathlib.Core.List.{List, [], ◌∷◌, map}
use Prim.Native.Nat.{ℕ, zero, suc, compare, Ordering}
use lib.IntN.{ℤ, pos, negsuc, neg_ℤ, ◌+ℤ◌, ◌*ℤ◌, +ℤ_assoc, +ℤ_comm, +ℤ_idl, +ℤ_idr, one, *ℤ_comm, *ℤ-one, zero-*ℤ, *ℤ-zero}
use lib.ListN.{get_or}
use lib.Dec.{eqb→eq, T, compare_is_eq}
use Rattle.whole.proofs.Laws.{*ℤ_assoc, *ℤ-+ℤ, +ℤ-*ℤ, neg_mul}

infixl 6 ◌⊕◌ ◌⊖◌
infixl 7 ◌⊗◌
pub data Expression : Type 0 where
  var : ℕ → Expression
  con : ℤ → Expression
  ◌⊕◌ : Expression → Expression → Expression
  ◌⊗◌ : Expression → Expression → Expression
  neg : Expression → Expression

abbrev pub ◌⊖◌ : Expression → Expression → Expression
a ⊖ b = a ⊕ neg b

-- an expression's value, where ρ has those of the variables
abbrev pub value : List ℤ → Expression → ℤ
value ρ (var i) = get_or ρ i (pos 0)
value ρ (con c) = c
value ρ (a ⊕ b) = value ρ a +ℤ value ρ b
value ρ (a ⊗ b) = value ρ a *ℤ value ρ b
value ρ (neg a) = neg_ℤ (value ρ a)

-- ---- the normal form

-- a sum of terms, each a coefficient and a sorted list of variables, the lists in order
pub data Polynomial : Type 0 where
  none : Polynomial
  term : ℤ → List ℕ → Polynomial → Polynomial

abbrev pub next : Ordering → Ordering → Ordering
next Ordering.lt o = Ordering.lt
next Ordering.eq o = o
next Ordering.gt o = Ordering.gt

-- the order of two lists of variables
abbrev pub compared : List ℕ → List ℕ → Ordering
compared [] [] = Ordering.eq
compared [] (y ∷ ys) = Ordering.lt
compared (x ∷ xs) [] = Ordering.gt
compared (x ∷ xs) (y ∷ ys) = next (compare x y) (compared xs ys)

-- a term in front, unless its coefficient is 0
abbrev pub keep : ℤ → List ℕ → Polynomial → Polynomial
keep (pos zero) m p = p
keep (pos (suc n)) m p = term (pos (suc n)) m p
keep (negsuc n) m p = term (negsuc n) m p

-- a term c m beside the first term d n of a sum, p being the rest and q the rest with c m added
abbrev pub term_placed : Ordering → ℤ → List ℕ → ℤ → List ℕ → Polynomial → Polynomial → Polynomial
term_placed Ordering.lt c m d n p q = term c m (term d n p)
term_placed Ordering.eq c m d n p q = keep (c +ℤ d) n p
term_placed Ordering.gt c m d n p q = term d n q

-- with one term more
abbrev pub with_term : ℤ → List ℕ → Polynomial → Polynomial
with_term c m none = keep c m none
with_term c m (term d n p) = term_placed (compared m n) c m d n p (with_term c m p)

abbrev pub with_terms : Polynomial → Polynomial → Polynomial
with_terms none q = q
with_terms (term c m p) q = with_term c m (with_terms p q)

-- a variable i beside the first one, j, of a list, m being the rest and q the rest with i put in
abbrev pub variable_placed : Ordering → ℕ → ℕ → List ℕ → List ℕ → List ℕ
variable_placed Ordering.lt i j m q = i ∷ j ∷ m
variable_placed Ordering.eq i j m q = i ∷ j ∷ m
variable_placed Ordering.gt i j m q = j ∷ q

-- with one variable more
abbrev pub with_variable : ℕ → List ℕ → List ℕ
with_variable i [] = i ∷ []
with_variable i (j ∷ m) = variable_placed (compare i j) i j m (with_variable i m)

abbrev pub merge : List ℕ → List ℕ → List ℕ
merge [] n = n
merge (i ∷ m) n = with_variable i (merge m n)

abbrev pub times_term : ℤ → List ℕ → Polynomial → Polynomial
times_term c m none = none
times_term c m (term d n p) = with_term (c *ℤ d) (merge m n) (times_term c m p)

abbrev pub multiplied : Polynomial → Polynomial → Polynomial
multiplied none q = none
multiplied (term c m p) q = with_terms (times_term c m q) (multiplied p q)

abbrev pub normal : Expression → Polynomial
normal (var i) = term (pos 1) (i ∷ []) none
normal (con c) = keep c [] none
normal (a ⊕ b) = with_terms (normal a) (normal b)
normal (a ⊗ b) = multiplied (normal a) (normal b)
normal (neg a) = times_term (negsuc 0) [] (normal a)

-- ---- a normal form has the value of its expression

compared_eq : (m n : List ℕ) → compared m n ≡ Ordering.eq → m ≡ n
compared_eq [] [] e = refl
compared_eq [] (y ∷ ys) e = cc
compared_eq (x ∷ xs) [] e = cc
compared_eq (x ∷ xs) (y ∷ ys) e = go (compare x y) refl (compared_eq xs ys) e
  where
    go : (o : Ordering) → compare x y ≡ o → (compared xs ys ≡ Ordering.eq → xs ≡ ys) → next o (compared xs ys) ≡ Ordering.eq → x ∷ xs ≡ y ∷ ys
    go Ordering.lt p f q = cc
    go Ordering.eq p f q = λ i. eqb→eq x y (subst (λ (o : Ordering). T (compare_is_eq o)) (sym p) tt) i ∷ f q i
    go Ordering.gt p f q = cc

module _ (ρ : List ℤ) where
  -- the value of a list of variables, and that of a sum of terms
  product_of : List ℕ → ℤ
  product_of [] = pos 1
  product_of (i ∷ m) = get_or ρ i (pos 0) *ℤ product_of m

  sum_of : Polynomial → ℤ
  sum_of none = pos 0
  sum_of (term c m p) = c *ℤ product_of m +ℤ sum_of p

  keep_value : (c : ℤ) (m : List ℕ) (p : Polynomial) → sum_of (keep c m p) ≡ c *ℤ product_of m +ℤ sum_of p
  unfolding sum_of
  keep_value (pos zero) m p = sym (ap (λ (t : ℤ). t +ℤ sum_of p) (zero-*ℤ (product_of m)) ∙ +ℤ_idl (sum_of p))
  keep_value (pos (suc n)) m p = refl
  keep_value (negsuc n) m p = refl

  swap : (a b c : ℤ) → a +ℤ (b +ℤ c) ≡ b +ℤ (a +ℤ c)
  swap a b c = sym (+ℤ_assoc a b c) ∙ ap (λ (t : ℤ). t +ℤ c) (+ℤ_comm a b) ∙ +ℤ_assoc b a c

  term_placed_value : (o : Ordering) (c : ℤ) (m : List ℕ) (d : ℤ) (n : List ℕ) (p q : Polynomial) → (o ≡ Ordering.eq → m ≡ n)
      → sum_of q ≡ c *ℤ product_of m +ℤ sum_of p → sum_of (term_placed o c m d n p q) ≡ c *ℤ product_of m +ℤ (d *ℤ product_of n +ℤ sum_of p)
  unfolding sum_of
  term_placed_value Ordering.lt c m d n p q f h = refl
  term_placed_value Ordering.eq c m d n p q f h =
      keep_value (c +ℤ d) n p ∙ ap (λ (t : ℤ). t +ℤ sum_of p) (+ℤ-*ℤ c d (product_of n)) ∙ +ℤ_assoc (c *ℤ product_of n) (d *ℤ product_of n) (sum_of p)
      ∙ ap (λ (l : List ℕ). c *ℤ product_of l +ℤ (d *ℤ product_of n +ℤ sum_of p)) (sym (f refl))
  term_placed_value Ordering.gt c m d n p q f h =
      ap (λ (t : ℤ). d *ℤ product_of n +ℤ t) h ∙ swap (d *ℤ product_of n) (c *ℤ product_of m) (sum_of p)

  with_term_value : (c : ℤ) (m : List ℕ) (p : Polynomial) → sum_of (with_term c m p) ≡ c *ℤ product_of m +ℤ sum_of p
  unfolding sum_of
  with_term_value c m none = keep_value c m none
  with_term_value c m (term d n p) = term_placed_value (compared m n) c m d n p (with_term c m p) (compared_eq m n) (with_term_value c m p)

  with_terms_value : (p q : Polynomial) → sum_of (with_terms p q) ≡ sum_of p +ℤ sum_of q
  unfolding sum_of
  with_terms_value none q = sym (+ℤ_idl (sum_of q))
  with_terms_value (term c m p) q =
      with_term_value c m (with_terms p q) ∙ ap (λ (t : ℤ). c *ℤ product_of m +ℤ t) (with_terms_value p q) ∙ sym (+ℤ_assoc (c *ℤ product_of m) (sum_of p) (sum_of q))

  swap_mul : (a b c : ℤ) → a *ℤ (b *ℤ c) ≡ b *ℤ (a *ℤ c)
  swap_mul a b c = sym (*ℤ_assoc a b c) ∙ ap (λ (t : ℤ). t *ℤ c) (*ℤ_comm a b) ∙ *ℤ_assoc b a c

  variable_placed_value : (o : Ordering) (i j : ℕ) (m q : List ℕ) → product_of q ≡ get_or ρ i (pos 0) *ℤ product_of m
      → product_of (variable_placed o i j m q) ≡ get_or ρ i (pos 0) *ℤ (get_or ρ j (pos 0) *ℤ product_of m)
  unfolding product_of
  variable_placed_value Ordering.lt i j m q h = refl
  variable_placed_value Ordering.eq i j m q h = refl
  variable_placed_value Ordering.gt i j m q h =
      ap (λ (t : ℤ). get_or ρ j (pos 0) *ℤ t) h ∙ swap_mul (get_or ρ j (pos 0)) (get_or ρ i (pos 0)) (product_of m)

  with_variable_value : (i : ℕ) (m : List ℕ) → product_of (with_variable i m) ≡ get_or ρ i (pos 0) *ℤ product_of m
  unfolding product_of
  with_variable_value i [] = refl
  with_variable_value i (j ∷ m) = variable_placed_value (compare i j) i j m (with_variable i m) (with_variable_value i m)

  mul_one : (x : ℤ) → pos 1 *ℤ x ≡ x
  unfolding one
  mul_one x = *ℤ_comm (pos 1) x ∙ *ℤ-one x

  merge_value : (m n : List ℕ) → product_of (merge m n) ≡ product_of m *ℤ product_of n
  unfolding product_of
  merge_value [] n = sym (mul_one (product_of n))
  merge_value (i ∷ m) n =
      with_variable_value i (merge m n) ∙ ap (λ (t : ℤ). get_or ρ i (pos 0) *ℤ t) (merge_value m n) ∙ sym (*ℤ_assoc (get_or ρ i (pos 0)) (product_of m) (product_of n))

  middle_swap : (a b c d : ℤ) → (a *ℤ c) *ℤ (b *ℤ d) ≡ (a *ℤ b) *ℤ (c *ℤ d)
  middle_swap a b c d = *ℤ_assoc a c (b *ℤ d) ∙ ap (λ (t : ℤ). a *ℤ t) (swap_mul c b d) ∙ sym (*ℤ_assoc a b (c *ℤ d))

  times_term_value : (c : ℤ) (m : List ℕ) (p : Polynomial) → sum_of (times_term c m p) ≡ (c *ℤ product_of m) *ℤ sum_of p
  unfolding sum_of
  times_term_value c m none = sym (*ℤ-zero (c *ℤ product_of m))
  times_term_value c m (term d n p) =
      with_term_value (c *ℤ d) (merge m n) (times_term c m p)
      ∙ (λ i. ((c *ℤ d) *ℤ merge_value m n i) +ℤ times_term_value c m p i)
      ∙ ap (λ (t : ℤ). t +ℤ (c *ℤ product_of m) *ℤ sum_of p) (middle_swap c (product_of m) d (product_of n))
      ∙ sym (*ℤ-+ℤ (c *ℤ product_of m) (d *ℤ product_of n) (sum_of p))

  multiplied_value : (p q : Polynomial) → sum_of (multiplied p q) ≡ sum_of p *ℤ sum_of q
  unfolding sum_of
  multiplied_value none q = sym (zero-*ℤ (sum_of q))
  multiplied_value (term c m p) q =
      with_terms_value (times_term c m q) (multiplied p q) ∙ (λ i. times_term_value c m q i +ℤ multiplied_value p q i) ∙ sym (+ℤ-*ℤ (c *ℤ product_of m) (sum_of p) (sum_of q))

  normal_value : (e : Expression) → sum_of (normal e) ≡ value ρ e
  unfolding sum_of product_of one
  normal_value (var i) = +ℤ_idr (pos 1 *ℤ (get_or ρ i (pos 0) *ℤ pos 1)) ∙ mul_one (get_or ρ i (pos 0) *ℤ pos 1) ∙ *ℤ-one (get_or ρ i (pos 0))
  normal_value (con c) = keep_value c [] none ∙ +ℤ_idr (c *ℤ pos 1) ∙ *ℤ-one c
  normal_value (a ⊕ b) = with_terms_value (normal a) (normal b) ∙ (λ i. normal_value a i +ℤ normal_value b i)
  normal_value (a ⊗ b) = multiplied_value (normal a) (normal b) ∙ (λ i. normal_value a i *ℤ normal_value b i)
  normal_value (neg a) =
      times_term_value (negsuc 0) [] (normal a) ∙ ap (λ (t : ℤ). t *ℤ sum_of (normal a)) (*ℤ-one (negsuc 0)) ∙ neg_mul (pos 1) (sum_of (normal a))
      ∙ ap neg_ℤ (mul_one (sum_of (normal a)) ∙ normal_value a)

-- two expressions with one normal form have one value
pub ring : (ρ : List ℤ) (a b : Expression) → normal a ≡ normal b → value ρ a ≡ value ρ b
ring ρ a b e = sym (normal_value ρ a) ∙ ap (sum_of ρ) e ∙ normal_value ρ b

-- ---- several identities at once

abbrev pub values : List ℤ → List Expression → List ℤ
values ρ es = map (value ρ) es

abbrev pub normals : List Expression → List Polynomial
normals es = map normal es

normals_value : (ρ : List ℤ) (es : List Expression) → map (sum_of ρ) (normals es) ≡ values ρ es
normals_value ρ [] = refl
normals_value ρ (e ∷ es) = λ i. normal_value ρ e i ∷ normals_value ρ es i

pub rings : (ρ : List ℤ) (ls rs : List Expression) → normals ls ≡ normals rs → values ρ ls ≡ values ρ rs
rings ρ ls rs e = sym (normals_value ρ ls) ∙ ap (map (sum_of ρ)) e ∙ normals_value ρ rs
