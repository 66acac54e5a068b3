-- What callers cite: the one module of lemmas for the crates above.
pub use Rattle.ir_table.proofs.ListedLemmas.{listed_later}
pub use Rattle.ir_table.proofs.MakesLemmas.{makes_err, makes_held, makes_new, makes_none, makes_ok, makes_same, makes_then}
pub use Rattle.ir_table.proofs.NewLemmas.{given_live, items_grow, live_sort, new_grows, new_succeeds, tried_live}
pub use Rattle.ir_table.proofs.PartLemmas.{live_binder}
pub use Rattle.ir_nodes.proofs.RowLemmas.{same_fits}
pub use Rattle.ir_table.proofs.SortLemmas.{AllFit}
pub use Rattle.ir_table.proofs.SpellingLemmas.{known_on, ok_last, on_ok, put_both, spaced-after_each, spelled_later}
pub use Rattle.ir_table.proofs.StartLemmas.{held_at_start}
