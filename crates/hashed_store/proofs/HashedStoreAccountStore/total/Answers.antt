use Rattle.std.proofs.Common.{get_or, take, sum_by, ap, arith}
use Rattle.accounts.proofs.Edits.{free_fits}
use Rattle.hashed_store.specs.Index.{store_of}
use Rattle.hashed_store.proofs.Links.{ok}
use Rattle.hashed_store.proofs.HashedStoreAccountStore.total.Goals as goal

pub returns : goal.returns
returns c =
    let s = c.args.self.now in
    omega (
      arith,
      c.total.ensures,
      ap (λ k. sum_by (λ a. get_or a.balances c.args.asset 0) (take k s.tables.slots.now)) c.len-n.ensures,
      s.sums (λ a. get_or a.balances c.args.asset 0),
      free_fits (store_of s.top s.tables.slots.now s.tables.order.records) c.args.asset (ok s.top s.tables.slots.now s.tables.buckets.now s.tables.order.records s.sound s.laid s.linked),
    )
