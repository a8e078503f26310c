-- Membership in a list by recursion on it, passed on.
pub use Rattle.kit_base.proofs.Among.{Among, among_right, among_left, among_cases, each_of, for_each, among_filter, filter_among, contains_among, among_contains, any_among, among_any, among_flat, flat_among, Distinct, distinct_filter, pairs_distinct, distinct_pairs}
