use Rattle.std.proofs.Common.{rules, ◌≡◌, ◌+◌, ◌-◌, length, slice_index, get_or, sym, ap, ◌∙◌, arith, take, drop}
use Rattle.std.proofs.lemmas.List.{get_or-take, get_or-drop}
use Rattle.lists.proofs.Tab.{tab_of}
use Rattle.recorded.proofs.inner.bytes.Goals as goal

pub returns : goal.returns
returns g c =
    let n = g.row.N in
    let place = c.args.place in
    let part = c.args.part.now in
    let long : length c.unwrap.result ≡ n = search rules in
    let same : c.unwrap.result ≡ take (place + n - place) (drop place part) = search rules in
    sym (tab_of n (λ k. slice_index part (place + k)) c.unwrap.result 0 long
    (λ k l. sym (ap (λ xs. get_or xs k 0) same ∙ get_or-take (place + n - place) (drop place part) k 0 (omega arith) ∙ get_or-drop place part k 0)))
