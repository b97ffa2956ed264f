use Rattle.irr_site.proofs.rests.difference.Goals as goal
