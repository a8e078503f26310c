-- The end of a run, one node after another.
use Rattle.std.proofs.Common.{◌≡◌, ◌≢◌, ℕ, List, [], ◌∷◌, ◌++◌, length, Option, Some, None, refl, sym, ap, ◌∙◌, subst, arith}
use Rattle.std.specs.List.{All}
use Rattle.std.proofs.lemmas.List.Elements.{All-append, All-cons, All-get_or, All-nil}
use mathlib.Core.Option.{some}
use lib.ListN.{get_elem?}
use Rattle.kit_ground.proofs.Lists.{at_inside}
use Rattle.kit_node.specs.declared.ends.End.{End}
use Rattle.kit_node.specs.declared.ends.End.TheVariants as ends
use Rattle.kit_node.specs.declared.ends.NodeEnd.{NodeEnd}
use Rattle.kit_node.specs.declared.ends.NodeEnd.TheVariants as node_end
use Rattle.kit_replay.proofs.Lists.{at_push, at_push_first, at_push_last, read_at}
use Rattle.kit_runner.specs.Ends.{EndsWith, HasFinishedNode, IsLeastNamed, NobodyCanSay, end_more, named_end}

abbrev E : Type 0
E = Option NodeEnd

none_named : (i : ℕ) (e : E) → e ≡ Some node_end.Finished → named_end i e ≡ None
none_named i e is = ap (named_end i) is

-- where all before have finished, nobody is named
module _ (nodes : List E) (all : (i : ℕ) (e : E) → get_elem? nodes i ≡ some e → named_end i e ≡ None) (e : E) where
  nobody_more : named_end (length nodes) e ≡ None → (i : ℕ) (d : E) → get_elem? (nodes ++ e ∷ []) i ≡ some d → named_end i d ≡ None
  nobody_more last = at_push (λ i d. named_end i d ≡ None) nodes e all last

  -- this one is named, and is the least
  named_now : (end : End) → named_end (length nodes) e ≡ Some end → IsLeastNamed (nodes ++ e ∷ []) (length nodes) end
  named_now end is = record {
    node = e;
    there = at_push_last nodes e (length nodes) refl;
    names = is;
    least = λ i d lt at. all i d (sym (at_push_first nodes e i lt) ∙ at);
  }

  unsaid_now : e ≢ Some node_end.Finished → named_end (length nodes) e ≡ None → NobodyCanSay (nodes ++ e ∷ [])
  unsaid_now other is = record {
    federate = length nodes;
    node = e;
    there = at_push_last nodes e (length nodes) refl;
    unfinished = other;
    nobody = nobody_more is;
  }

-- one that was the least stays so
named_still : (nodes : List E) (e : E) (f : ℕ) (end : End) → IsLeastNamed nodes f end → IsLeastNamed (nodes ++ e ∷ []) f end
named_still nodes e f end h =
    let lf = at_inside nodes f h.node h.there in record {
      node = h.node;
      there = at_push_first nodes e f lf ∙ h.there;
      names = h.names;
      least = λ i d lt at. h.least i d lt (sym (at_push_first nodes e i (omega arith)) ∙ at);
    }

unsaid_still : (nodes : List E) (e : E) → NobodyCanSay nodes → named_end (length nodes) e ≡ None → NobodyCanSay (nodes ++ e ∷ [])
unsaid_still nodes e h is = record {
  federate = h.federate;
  node = h.node;
  there = at_push_first nodes e h.federate (at_inside nodes h.federate h.node h.there) ∙ h.there;
  unfinished = h.unfinished;
  nobody = nobody_more nodes h.nobody e is;
}

some_none : {X : Type 0} {x : X} → None ≡ Some x → ⊥
some_none e = cc

all_at : (nodes : List E) → All HasFinishedNode nodes → (i : ℕ) (e : E) → get_elem? nodes i ≡ some e → e ≡ Some node_end.Finished
all_at nodes all i e at = subst HasFinishedNode (read_at nodes i e e at) (All-get_or HasFinishedNode nodes i e (at_inside nodes i e at) all)

pub ends_more : (nodes : List E) (so_far : End) (e : E) → EndsWith nodes so_far → EndsWith (nodes ++ e ∷ []) (end_more so_far (length nodes) e)
ends_more nodes ends.Done e h = done e
  where
    named : (i : ℕ) (d : E) → get_elem? nodes i ≡ some d → named_end i d ≡ None
    named i d at = none_named i d (all_at nodes h i d at)

    done : (d : E) → EndsWith (nodes ++ d ∷ []) (end_more ends.Done (length nodes) d)
    done None = unsaid_now nodes named None (λ e. some_none e) refl
    done (Some node_end.Finished) = All-append HasFinishedNode nodes (Some node_end.Finished ∷ []) h (All-cons HasFinishedNode (Some node_end.Finished) [] refl (All-nil HasFinishedNode))
    done (Some (node_end.NoBuffer number)) = named_now nodes named (Some (node_end.NoBuffer number)) (ends.NoBuffer (length nodes) number) refl
    done (Some node_end.SendsSpent) = named_now nodes named (Some node_end.SendsSpent) (ends.SendsSpent (length nodes)) refl
    done (Some node_end.RoundsSpent) = named_now nodes named (Some node_end.RoundsSpent) (ends.RoundsSpent (length nodes)) refl
    done (Some node_end.NoMemory) = unsaid_now nodes named (Some node_end.NoMemory) (λ e. cc) refl
ends_more nodes ends.NoMemory e h = unsaid e
  where
    unsaid : (d : E) → EndsWith (nodes ++ d ∷ []) (end_more ends.NoMemory (length nodes) d)
    unsaid None = unsaid_still nodes None h refl
    unsaid (Some node_end.Finished) = unsaid_still nodes (Some node_end.Finished) h refl
    unsaid (Some (node_end.NoBuffer number)) = named_now nodes h.nobody (Some (node_end.NoBuffer number)) (ends.NoBuffer (length nodes) number) refl
    unsaid (Some node_end.SendsSpent) = named_now nodes h.nobody (Some node_end.SendsSpent) (ends.SendsSpent (length nodes)) refl
    unsaid (Some node_end.RoundsSpent) = named_now nodes h.nobody (Some node_end.RoundsSpent) (ends.RoundsSpent (length nodes)) refl
    unsaid (Some node_end.NoMemory) = unsaid_still nodes (Some node_end.NoMemory) h refl
ends_more nodes (ends.Unfinished f) e h = absurd h
ends_more nodes (ends.NoBuffer f number) e h = named_still nodes e f (ends.NoBuffer f number) h
ends_more nodes (ends.SendsSpent f) e h = named_still nodes e f (ends.SendsSpent f) h
ends_more nodes (ends.RoundsSpent f) e h = named_still nodes e f (ends.RoundsSpent f) h
