-- What the questions and replies of the code say, in the words of the rules. Assumes nothing.
use Rattle.std.specs.Prelude.{ℕ, List, [], ◌∷◌}
use Rattle.terms.specs.Order.{words}
use Rattle.ordered.specs.Places.{told}
use Rattle.exchange.specs.Life as ex
use Rattle.asking.specs.declared.questions.Question.{Question}
use Rattle.asking.specs.declared.questions.Question.TheVariants.{Height, Digest, Passed, Committed, Lapsed, Rejected, Accounts, AccountCapacity, Top, Offers, OfferCapacity, Remainder, Free, Offered, Stands, Floor, Balance, Amount, AccountAbove, OfferAbove, UpTo}
use Rattle.asking.specs.declared.questions.Reply.{Reply}
use Rattle.asking.specs.declared.questions.Reply.TheVariants as reply

abbrev pub question_of : Question → ex.Question
question_of Height = ex.Question.height
question_of Digest = ex.Question.digest
question_of Passed = ex.Question.passed
question_of Committed = ex.Question.committed
question_of Lapsed = ex.Question.lapsed
question_of Rejected = ex.Question.rejected
question_of Accounts = ex.Question.accounts
question_of AccountCapacity = ex.Question.account_capacity
question_of Top = ex.Question.top
question_of Offers = ex.Question.offers
question_of OfferCapacity = ex.Question.offer_capacity
question_of (Remainder x) = ex.Question.remainder_of x
question_of (Free x) = ex.Question.all_free x
question_of (Offered x) = ex.Question.all_offered x
question_of (Stands n) = ex.Question.standing_of n
question_of (Floor n) = ex.Question.floor_of n
question_of (Balance n x) = ex.Question.balance_of n x
question_of (Amount k) = ex.Question.amount_of k
question_of (AccountAbove n) = ex.Question.account_above n
question_of (OfferAbove k) = ex.Question.offer_above k
question_of (UpTo x y l) = ex.Question.offered_up_to x y l

-- the numbers of a reply
abbrev pub reply_of : Reply → List ℕ
reply_of (reply.Number n) = n ∷ []
reply_of (reply.Digest d) = d
reply_of (reply.Account n) = told (λ m. m ∷ []) n
reply_of (reply.Offer k) = told words k
