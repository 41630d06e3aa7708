-- The digests of the worked states, by computing SHA-256. Assumes nothing.
use Rattle.std.proofs.Common.{◌≡◌, refl}
use Rattle.sha256.specs.Padding.{pad, words_of}
use Rattle.sha256.specs.Compression.{schedule, rounds_of, chain}
use Rattle.sha256.specs.Digest.{sha256}
use Rattle.exchange.specs.Commit.{digest_of}
use Rattle.exchange.specs.Cases.{start, after, after_numbered, founded_digest, committed_digest, numbered_digest}

pub digest_founded : founded_digest ≡ digest_of start
unfolding sha256 chain pad words_of schedule rounds_of
digest_founded = refl

pub digest_committed : committed_digest ≡ digest_of after
unfolding sha256 chain pad words_of schedule rounds_of
digest_committed = refl

pub digest_numbered : numbered_digest ≡ digest_of after_numbered
unfolding sha256 chain pad words_of schedule rounds_of
digest_numbered = refl
