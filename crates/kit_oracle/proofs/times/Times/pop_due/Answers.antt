use Rattle.std.proofs.Common.{◌∙◌, ◌∷◌, ◌<◌, ℕ, List, map, length, ap, sym, subst, refl}
use Rattle.std.specs.List.Sorted.{IsPermutation}
use Rattle.std.specs.BinaryHeap.{heap_items}
use Rattle.kit_oracle.specs.Times.{count_later}
use Rattle.kit_oracle.proofs.Later.{later_popped, all_later, first_taken, fewer_taken}
use Rattle.kit_oracle.proofs.times.Times.pop_due.Goals as goal
use Rattle.kit_oracle.proofs.times.Times.pop_due.Goals.{After-pop}

taken : (c : After-pop) → IsPermutation (heap_items c.self.inside.heap) (c.in-Some.field-0.now ∷ heap_items c.pop.new.self)
taken c =
    first_taken (λ r. r.0) (heap_items c.self.inside.heap) (heap_items c.pop.new.self) c.pop.result c.in-Some.field-0.now c.in-Some.ensures.lookup
    (c.pop.ensures.variant.1 (c.in-Some.ensures.variant.0 refl)) c.pop.ensures.top c.pop.ensures.permutation

pub returns-in-Some-clause-some : goal.returns-in-Some-clause-some
returns-in-Some-clause-some c e =
    subst (λ (xs : List ℕ). length (map (λ r. r.0) (heap_items c.pop.new.self)) < length xs) c.self.view_is (fewer_taken (λ r. r.0) (heap_items c.self.inside.heap) (heap_items c.pop.new.self) c.in-Some.field-0.now (taken c))

pub returns-in-Some-clause-kept : goal.returns-in-Some-clause-kept
returns-in-Some-clause-kept c t le =
    later_popped (λ r. r.0) c.args.by t c.in-Some.field-0.now (heap_items c.self.inside.heap) (heap_items c.pop.new.self) (taken c) c.if-time-by.true le ∙ ap (count_later t) c.self.view_is

pub returns-in_default-clause-none : goal.returns-in_default-clause-none
returns-in_default-clause-none c e =
    ap (λ (xs : List ℕ). length xs) (sym c.self.view_is)
    ∙ all_later (λ r. r.0) c.args.by c.in-Some.field-0.now (heap_items c.self.inside.heap) c.if-time-by.false (c.in-Some.ensures.greatest c.self.invariant)
    ∙ ap (count_later c.args.by) c.self.view_is
