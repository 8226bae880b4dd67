-- What is claimed (02, Req 12), over the definitions that the contracts cite. Assumes nothing.
use Rattle.std.specs.Prelude.{◌≡◌, List, ℕ, ◌<◌, ℤ, pos, length}
use Rattle.lists.specs.Chain.{chain, pass}
use Rattle.lists.specs.Tab.{turned}
use Rattle.transform.specs.Forward.{forward}
use Rattle.transform.specs.Matrix.{Matrix, product, transposed, raster, entries}
use Rattle.residual.specs.Entry.{levels_tests}
use Rattle.residual.specs.Levels.{quantized, levels_of}
use Rattle.residual.specs.Rebuild.{rebuilt_samples, rescaled_of}
use Rattle.intra4.specs.Samples.{mask}
use Rattle.intra4.specs.Rules.{predicted, permitted}
use Rattle.turned.specs.Square.{turned_block, turned_samples}
use Rattle.turned.specs.Exchanged.{Exchanged, Becomes, turned_prediction}

-- over the size n: M X M-transposed of X with rows and columns exchanged is that of X, exchanged
abbrev pub ProductsTurn : Type 0
ProductsTurn = (n : ℕ) (M : Matrix) (x : List ℤ)
    → entries n (product n M (product n (raster n (turned (pos 0) n x)) (transposed M))) ≡ turned (pos 0) n (entries n (product n M (product n (raster n x) (transposed M))))

-- "exchanging rows and columns of a residual block exchanges those of its coefficients"
abbrev pub CoefficientsTurn : Type 0
CoefficientsTurn = (x : List ℤ) → forward (turned_block x) ≡ turned_block (forward x)

-- "and, with flat weights, of its levels in raster order"
abbrev pub LevelsTurn : Type 0
LevelsTurn = (qp : ℕ) (x : List ℤ) → quantized qp (turned_block x) ≡ turned_block (quantized qp x)

-- what the flags permit
abbrev pub PermittedTurns : Type 0
PermittedTurns = (n n' : List ℕ) (f f' m m' : ℕ) → Exchanged n f n' f' → Becomes m m' → permitted f' m' ≡ permitted f m

-- where A-D and I-L are exchanged, whatever they are, mode m' has the samples of mode m transposed, or none where it had none
abbrev pub Correspond : ℕ → ℕ → Type 0
Correspond m m' = (n n' : List ℕ) (f f' : ℕ) → length n ≡ 13 → Exchanged n f n' f'
    → predicted (mask n' f') m' ≡ turned_prediction (predicted (mask n f) m)

-- "turns mode 0 into 1 and 5 into 6 and back, and keeps 4 and DC, samples transposed"
abbrev pub PredictionTurns : Type 0
PredictionTurns = (m m' : ℕ) → Becomes m m' → Correspond m m'

-- and there are no other such modes
abbrev pub NoOthersTurn : Type 0
NoOthersTurn = (m m' : ℕ) → m < 9 → m' < 9 → Correspond m m' → Becomes m m'

-- "Rebuilt samples aren't included, since rows are halved before columns": this, of every residual block that `levels` accepts,
abbrev pub RebuiltTurn : Type 0
RebuiltTurn = (qp : ℕ) (prediction : List ℕ) (x : List ℤ) → chain (levels_tests qp x x) ≡ pass
    → rebuilt_samples (turned_samples prediction) (rescaled_of qp (levels_of qp (turned_block x))) ≡ turned_samples (rebuilt_samples prediction (rescaled_of qp (levels_of qp x)))

-- is false
abbrev pub RebuiltNotIncluded : Type 0
RebuiltNotIncluded = RebuiltTurn → ⊥
