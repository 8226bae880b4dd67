-- `record::Kind::of_mark` meets its contract: the first kind that has the mark. Assumes nothing.
use mathlib.Core.Path.{◌≡◌, refl, ap, ◌∙◌}
use borrow.Author.Rules.{rules}
use borrow.Author.Tests.{tests}
use lib.Dec.{eqb}
use Rattle.std.specs.Option.{option_copied, option_map}
use Rattle.std.specs.Prelude.{Option, None, Some}
use denote.Ref.{Bor}
use Rattle.record.specs.declared.Kind.{Kind}
use Rattle.std.proofs.lemmas.Iterator.{YieldsList-from_slice}
use Rattle.std.proofs.lemmas.Iterator.Search.{find_from_yields_List}
use Rattle.record.specs.Kinds.{kinds, kind_of, known_by}
use Rattle.record.proofs.Marks.{kind_found}
use Rattle.record.proofs.Kind.of_mark.Goals as goal

-- what is lent is copied
values : (r : Option (Bor Kind)) → option_copied r ≡ option_map (λ x. x.now) r
values None = refl
values (Some x) = refl

pub returns : goal.returns
unfolding kind_of
returns c =
    let mark = c.args.mark in
    let found =
    find_from_yields_List (λ k. eqb mark k.mark) _ _ c.find.result c.find.ensures.ran (YieldsList-from_slice kinds c.iter.ensures.rest) (λ x b q k. search (rules, tests)) in
    ap known_by (c.copied.ensures ∙ values c.find.result ∙ found) ∙ kind_found mark kinds
