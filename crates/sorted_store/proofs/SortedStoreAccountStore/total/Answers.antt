use Rattle.std.proofs.Common.{arith}
use Rattle.accounts.proofs.Edits.{free_fits}
use Rattle.sorted_store.specs.Rows.{store_of}
use Rattle.sorted_store.proofs.Slots.{ok}
use Rattle.sorted_store.proofs.SortedStoreAccountStore.total.Goals as goal

pub returns : goal.returns
returns c = let s = c.args.self.now in omega (arith, c.sum.ensures, free_fits (store_of s.table s.top) c.args.asset (ok s.table s.top s.sound))
