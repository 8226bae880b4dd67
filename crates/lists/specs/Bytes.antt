-- Samples and files are bytes. Assumes nothing.
use Rattle.std.specs.Prelude.{List, ℕ, ◌<◌, get_or}

-- each element is below 256; past the end `get_or` gives 0, so no length is asked. A record, so that the list can be inferred from a hypothesis
pub record Bytes (l : List ℕ) : Type 0 where
  pub byte : (k : ℕ) → get_or l k 0 < 256
