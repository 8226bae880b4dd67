-- The content of a macroblock's record, by its kind (01, "What is sent back, and in which order it is tested"; 02, Req 01). Assumes nothing.
use Rattle.std.specs.Prelude.{cond, List, ℕ}
use Rattle.lists.specs.Chain.{Test}
use Rattle.refusal.specs.declared.Refusal.{Refusal}
use Rattle.record.specs.Kinds.{in_fours, in_whole}
use Rattle.record.specs.Records.{is_whole}
use Rattle.record.specs.declared.Kind.{Kind}
use Rattle.picture.specs.declared.Layout.{Layout}
use Rattle.macroblock4.specs.Content.{content_tests4}
use Rattle.macroblock16.specs.Content.{content_tests16}

-- the kind that a record's mark says
abbrev pub kind_by : List ℕ → Kind
kind_by part = cond (is_whole part) in_whole in_fours

-- its tests, in their order
unfoldable pub content_tests : Layout → (m : ℕ) → (part : List ℕ) → List (Test Refusal)
content_tests l m part = cond (is_whole part) (content_tests16 l m part) (content_tests4 l m part)
