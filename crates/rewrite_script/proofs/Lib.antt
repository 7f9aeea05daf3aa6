mod Rewritings
