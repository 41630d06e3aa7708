use Rattle.std.proofs.Common.{◌≡◌, ◌/◌, min, length, vec_items, sym, ◌∙◌, subst}
use Rattle.twins.specs.Paired.{Paired}
use Rattle.twins.proofs.Begin.{begin_alike}
use Rattle.twins.proofs.run_twins.Goals as goal

pub returns : goal.returns
returns c = λ p.
    let n : length c.as_mut_slice.result.now ≡ 256 = c.as_mut_slice.ensures.len ∙ c.in_ok-slots.ensures.len in
    let m : length c.as_mut_slice-2.result.now ≡ 256 = c.as_mut_slice-2.ensures.len ∙ c.in_ok-other_slots.ensures.len in
    let i : length c.as_mut_slice-3.result.now ≡ 768 = c.as_mut_slice-3.ensures.len ∙ c.in_ok-index.ensures.len in
    let o : length c.as_mut_slice-4.result.now ≡ 1024 = c.as_mut_slice-4.ensures.len ∙ c.in_ok-offers.ensures.len in
    let alike =
    begin_alike _ _ _ _ 4294967295 _ _ _ _ c.new-2.ensures c.new-3.ensures c.in_ok-trie.ensures c.new-4.ensures
    ((λ k. min (min (m k) (i k / 3)) 65536) ∙ sym (λ k. min (n k) 65536)) (λ k. min (o k) 65536) in
    let paired =
    subst (λ es. Paired es c.as_slice-2.result.now) (sym c.as_slice.ensures.value)
    (subst (λ fs. Paired (vec_items c.args.twins.now.first) fs) (sym c.as_slice-2.ensures.value) p) in
    let agreed = c.live_twice.ensures.agree alike paired in
    record { equal = agreed.equal; all = λ e f. (agreed.all e f).0 }
