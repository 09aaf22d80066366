-- What the walks of the exports cite.
pub use Rattle.std.proofs.Common.{◌≡◌, ℕ, List, [], ◌∷◌, refl, ap, Option, None, w16, w32, w64}
pub use Rattle.std.proofs.raw_atomic.Walks.{proved, leaves}
pub use base.Fraction.{full_share}
pub use base.Logic.{id⊢}
pub use base.Fml.{fsep, flft}
pub use mir.Syntax.{named}
pub use mir.Val.{vptr, vunit}
pub use contract.Running.{tables}
pub use types.Kit.{‵, raw, ◌⊛◌, prop, ◌$◌, ◌∵◌, !, qed, done, move, keep, drop, use1, use2, split, join, fsplit, fjoin, feq_i, feq_l, rewrite, regoal, suffices}
pub use types.Run.{enter, of_opd, addr, stop, no_more, and_then, returns, unit_lit, init, assigns, from, fld, hop}
pub use types.ByLocal.{alloc_all, pass_all, free_all, look_at, get, through, sets, lands_as, get_in, look_in_at}
pub use prog.Wp.{WpFn}
pub use denote.Builtin.{u32, u64, u8, usize}
pub use denote.Laws.{shows, Is, valss, Spells}
pub use denote.Memory.{part_at}
pub use denote.Plain.{uint_Lawful, uint_vals, uint_Tells}
pub use denote.RawPtr.{Ptr, block_ptr, in_a_block, rawptr_vals, rawptr_Tells}
pub use denote.Ref.{mut_vals, mut_Tells}
pub use denote.Signature.{types_at}
pub use denote.Steps.{nothing, peeks, only}
pub use denote.Triple.Call.{calls_at}
pub use denote.Triple.Clauses.{Lasts, lasts}
pub use denote.Triple.Entry.{alive, Args}
pub use denote.RattleType.{owns}
pub use Rattle.linkd_c.proofs.Lent.{all_give, all_go, lends, answers, takes_back, packs}
pub use denote.Triple.Spec.{triple_of}
pub use denote.Triple.Table.{framed}
pub use denote.Triple.Walked.{walk_of}
pub use denote.Slice.{shr_slice_vals, shr_slice_Tells, mut_slice_vals, mut_slice_Tells}
pub use Rattle.std.proofs.Handle.{heap_val, heap_Tells}
pub use types.Part.{agg, sub, whole}
pub use borrow.Table.OneValue.{part_in}
pub use contract.Lifetimes.{Lfts}
