use Rattle.gq_text.proofs.digits.Digits.+push_word.Given as goal

abbrev pub decreases-push_word : goal.decreases-push_word
decreases-push_word l = l.places
