use Rattle.std.proofs.Common.{◌≡◌, ◌∙◌, ◌<◌, ◌≤◌, ◌+◌, ◌^◌, ℕ, List, [], max, set, get_or, arith, sym, subst, ap}
use Rattle.std.proofs.lemmas.List.{get_or_default}
use Rattle.kit_oracle.specs.Times.{count_later, count_sent_later}
use Rattle.kit_oracle.specs.Needing.{AreNeeds}
use Rattle.kit_oracle.proofs.Outstanding.{room_to_count, needs_next}
use Rattle.kit_oracle.proofs.needs.NeedsObserver.grant.Goals as goal

pub index_mut-requires : goal.index_mut-requires
index_mut-requires c =
    let h = c.requires.3 in
    omega (arith, (room_to_count c.args.federation.now c.requires.0 c.args.pair c.args.made.now c.args.self.now.times.items c.args.self.now.most.items c.requires.2 h).0, h.each_times, c.args.self.now.times.ok.0)

pub outstanding-requires : goal.outstanding-requires
outstanding-requires c =
    let h = c.requires.3 in
    let times = c.args.self.now.times.items in
    let room = room_to_count c.args.federation.now c.requires.0 c.args.pair c.args.made.now times c.args.self.now.most.items c.requires.2 h in
    let P : List ℕ → Type 0 = λ xs. count_later c.args.pair.0 xs + count_sent_later c.args.federation.now c.args.pair.0 c.args.made.now < 2 ^ 16 in
    subst P (sym (c.index_mut.ensures.value ∙ get_or_default times c.args.pair.1 c.index_mut.result.now [] (omega (arith, room.0, h.each_times)))) room.1

pub index-requires : goal.index-requires
index-requires c =
    let h = c.requires.3 in
    omega (arith, (room_to_count c.args.federation.now c.requires.0 c.args.pair c.args.made.now c.args.self.now.times.items c.args.self.now.most.items c.requires.2 h).0, h.each_most, c.args.self.now.most.ok.0)

pub index_mut-requires-2 : goal.index_mut-requires-2
index_mut-requires-2 c =
    let h = c.requires.3 in
    omega (arith, (room_to_count c.args.federation.now c.requires.0 c.args.pair c.args.made.now c.args.self.now.times.items c.args.self.now.most.items c.requires.2 h).0, h.each_most, c.args.self.now.most.ok.0)

pub returns : goal.returns
returns c n ls is h =
    let p = c.args.federation.now in
    let g = c.args.pair in
    let made = c.args.made.now in
    let times = c.args.self.now.times.items in
    let most = c.args.self.now.most.items in
    let within = (room_to_count p n g made times most is h).0 in
    let before : c.index_mut.result.now ≡ get_or times g.1 [] = c.index_mut.ensures.value ∙ get_or_default times g.1 c.index_mut.result.now [] (omega (arith, within, h.each_times)) in
    let top : c.max.result ≡ max (get_or most g.1 0) c.in_ok-count.count = c.max.ensures ∙ ap (λ m. max m c.in_ok-count.count) (c.index.ensures ∙ get_or_default most g.1 c.index.result.now 0 (omega (arith, within, h.each_most))) in
    let K : List ℕ → Type 0 = λ xs. (t : ℕ) → g.0 ≤ t → count_later t c.outstanding.new.times ≡ count_later t xs + count_sent_later p t made in
    let C : List ℕ → Type 0 = λ xs. c.in_ok-count.count ≡ count_later g.0 xs + count_sent_later p g.0 made in
    let A : ℕ → Type 0 = λ m. AreNeeds p (n + 1) (set times g.1 c.outstanding.new.times) (set most g.1 m) in
    subst A (sym top) (needs_next p n g made times most c.outstanding.new.times c.in_ok-count.count is h (subst K before c.in_ok-count.ensures.kept) (subst C before c.in_ok-count.ensures.count))
